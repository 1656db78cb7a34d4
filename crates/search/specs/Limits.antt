-- The limit of states (REFERENCE.md, Limits), and the sizes of the memory that a search keeps them in.
-- Assumes nothing.
use Rattle.std.specs.Prelude.{ℕ, suc, ◌/◌, ◌^◌}
use Rattle.basics.specs.Limits.{signal_limit, operator_limit}

-- the most states
abbrev pub state_limit : ℕ
state_limit = 128

-- the most letters: the values of all signals
abbrev pub letter_limit : ℕ
letter_limit = 2 ^ signal_limit

-- bytes that a set of patterns takes: a bit for each pattern of one obligation more than there are operators
abbrev pub set_size : ℕ
set_size = 2 ^ suc operator_limit / 8

-- entries of a letter's map: one for each pattern of the operators alone
abbrev pub map_size : ℕ
map_size = 2 ^ operator_limit
