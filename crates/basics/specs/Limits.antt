-- Limits (REFERENCE.md, Limits) and sizes of the machine that several layers build on. What follows from them is worked out from them where
-- it is used.
-- Assumes nothing.
use Rattle.std.specs.Prelude.{ℕ, ◌^◌}

-- signals of a kind, and in all
abbrev pub kind_limit : ℕ
kind_limit = 4

abbrev pub signal_limit : ℕ
signal_limit = 9

-- temporal operators
abbrev pub operator_limit : ℕ
operator_limit = 7

-- indices of a formula's parts: an index is a byte
abbrev pub index_limit : ℕ
index_limit = 256

-- bits of a machine word, a power of two: so many patterns are worked out at a time
abbrev pub word_bits : ℕ
word_bits = 6

abbrev pub word_size : ℕ
word_size = 2 ^ word_bits
