-- `SizedTable::are_rows` meets its contract. The invariant: the rows passed can be printed.
-- Assumes nothing.
use mathlib.Core.Path.{◌≡◌}
use mathlib.Core.Bool.{true}
use Rattle.basics.specs.Bounded.{all}
use Rattle.wellformed.specs.WellFormed.{is_printable_row}
use Rattle.wellformed.proofs.checking.SizedTable.are_rows.Given as goal

abbrev pub invariant-loop-row : goal.invariant-loop-row
invariant-loop-row l =
    all l.row (is_printable_row l.self.cells.now l.self.shape) ≡ true
