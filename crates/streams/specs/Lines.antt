-- What reading a line tells. Assumes nothing.
use Rattle.std.specs.Prelude.{ℕ, zero, suc, List, Result, Ok, Err}
use Rattle.io.specs.Counts.{IsPrefixLen}
use Rattle.std.specs.declared.io.Error.{Error}
use Rattle.streams.specs.declared.reading_lines.Line.{Line}
use Rattle.streams.specs.declared.reading_lines.Line.TheVariants.{Given, Long, End}

-- what a read that gave r and brought no byte tells behind n bytes of a line: a failed read is not its end
abbrev pub line_ended_at : Result ℕ Error → ℕ → Result Line Error
line_ended_at (Ok k) zero = Ok End
line_ended_at (Ok k) (suc n) = Ok (Given (suc n))
line_ended_at (Err e) n = Err e

-- a given line stands at the start of the buffer
abbrev pub LineWithin : Result Line Error → List ℕ → Type 0
LineWithin (Ok (Given n)) xs = IsPrefixLen n xs
LineWithin (Ok Long) xs = Unit
LineWithin (Ok End) xs = Unit
LineWithin (Err e) xs = Unit
