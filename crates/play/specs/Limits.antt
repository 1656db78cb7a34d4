-- The limits of the game (REFERENCE.md, Limits).
-- Assumes nothing.
use Rattle.std.specs.Prelude.{ℕ, ◌*◌, ◌^◌}
use Rattle.basics.specs.Limits.{kind_limit}

-- the most beliefs
abbrev pub belief_limit : ℕ
belief_limit = 256

-- the most choices, and the most observations: the values of the signals of one kind
abbrev pub side_limit : ℕ
side_limit = 2 ^ kind_limit

-- the most pairs of a choice and an observation
abbrev pub pair_limit : ℕ
pair_limit = side_limit * side_limit
