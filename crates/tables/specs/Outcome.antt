-- What `answer` says of a verdict, and what the calls say of a table.
-- Assumes nothing.
use Rattle.tables.specs.declared.answering.Outcome.{Outcome}
use Rattle.std.specs.Prelude.{ℕ, Option, None, Some}
use Rattle.tables.specs.declared.shape.Shape.{Shape}
use Rattle.tables.specs.declared.shape.Table.{Table}
use Rattle.play.specs.Answer.{Verdict, solved, unrealizable}

-- a table with its row count and worst case
abbrev pub found : ℕ → ℕ → Option Outcome
found n r = Some (record { rows = n; worst_case = r })

abbrev pub outcome_of : Verdict → Option Outcome
outcome_of (solved n r cells) = found n r
outcome_of unrealizable = None

-- a table's shape and worst case
abbrev pub table_with : Shape → ℕ → Table
table_with shape worst = record { shape = shape; worst_case = worst }
