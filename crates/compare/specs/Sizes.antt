-- The sizes of the plain solver's arrays. All follow from the limits of operators and signals.
-- Assumes nothing.
use Rattle.std.specs.Prelude.{ℕ, suc, ◌+◌, ◌*◌, ◌^◌}
use Rattle.basics.specs.Limits.{operator_limit}
use Rattle.play.specs.Limits.{side_limit}

-- bits of a pattern, and patterns
abbrev pub bit_count : ℕ
bit_count = suc operator_limit

abbrev pub pattern_count : ℕ
pattern_count = 2 ^ bit_count

-- cells of a row: under `read` a first one, two for each observation, and one for the rank
abbrev pub long_row : ℕ
long_row = 2 + 2 * side_limit
