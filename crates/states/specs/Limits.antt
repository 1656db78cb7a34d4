-- The sizes of the memory that keeps the words of letters. All follow from the limits of operators and signals.
-- Assumes nothing.
use Rattle.std.specs.Prelude.{ℕ, suc, ◌-◌, ◌*◌, ◌^◌}
use Rattle.basics.specs.Limits.{operator_limit, word_bits}
use Rattle.search.specs.Limits.{letter_limit}

-- words of a letter in a plane: one for each bit of a pattern
abbrev pub slot_size : ℕ
slot_size = suc operator_limit

-- words of a plane: those of all letters
abbrev pub plane_size : ℕ
plane_size = letter_limit * slot_size

-- planes: words with a bit for each pattern of the operators alone
abbrev pub plane_count : ℕ
plane_count = 2 ^ (operator_limit - word_bits)
