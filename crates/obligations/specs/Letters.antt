-- The letters of a problem: one for every way to set its signals. They are numbered without gaps, the output signals lowest
-- and the hidden ones highest; a letter itself has each kind at its own bits (REFERENCE.md, Letters).
-- Assumes nothing.
use Rattle.std.specs.Prelude.{ℕ, ◌+◌, ◌/◌, ◌%◌, ◌^◌, List}
use Rattle.basics.specs.Lists.{tabulate}
use Rattle.formula.specs.Letter.{Counts, letter_from}

abbrev pub counts : ℕ → ℕ → ℕ → Counts
counts o s h = record { outputs = o; observed = s; hidden = h }

-- how many letters there are
abbrev pub letter_count : Counts → ℕ
letter_count c = 2 ^ (c.outputs + c.observed + c.hidden)

-- letter number i
abbrev pub letter_of : Counts → ℕ → ℕ
letter_of c i = letter_from (i % 2 ^ c.outputs) (i / 2 ^ c.outputs % 2 ^ c.observed) (i / 2 ^ (c.outputs + c.observed))

unfoldable pub letters_of : Counts → List ℕ
letters_of c = tabulate (letter_count c) (letter_of c)
