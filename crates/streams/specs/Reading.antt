-- What reading tells. Assumes nothing.
use Rattle.std.specs.Prelude.{ℕ, List, take, Result, Ok, Err}
use Rattle.io.specs.Counts.{IsPrefixLen}
use Rattle.std.specs.declared.io.Error.{Error}
use Rattle.streams.specs.declared.reading.Input.{Input}
use Rattle.streams.specs.declared.reading.Input.TheVariants.{Whole, Longer}

-- what a read that gave r and brought no byte tells behind n bytes: a failed read is not the end of the input
abbrev pub ended_at : Result ℕ Error → ℕ → Result Input Error
ended_at (Ok k) n = Ok (Whole n)
ended_at (Err e) n = Err e

-- a whole input stands at the start of the buffer
abbrev pub Within : {E : Type 0} → Result Input E → List ℕ → Type 0
Within (Ok (Whole n)) xs = IsPrefixLen n xs
Within (Ok Longer) xs = Unit
Within (Err e) xs = Unit

-- what was read into a buffer that is xs then
abbrev pub read_into : Input → List ℕ → List ℕ
read_into (Whole n) xs = take n xs
read_into Longer xs = xs
