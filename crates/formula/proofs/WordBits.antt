-- Bits of words, and what `&`, `|` and `!` make of them.
-- Assumes nothing.
use Rattle.std.proofs.Common.{ℕ, ◌-◌, ◌^◌, ◌<◌, ◌≡◌, ap, arith, true, not, ◌&&◌, ◌||◌, eqb, bit_and, bit_or, w64}
use Rattle.std.proofs.lemmas.Nat.Bits.{bit_at_and, bit_at_or, bit_at_not, bit_at_ones, bit_at-lt}
use Rattle.basics.specs.Bits.{bit}
use Rattle.basics.specs.Limits.{word_size}

pub bit_bit_and : (x y j : ℕ) → bit (bit_and x y) j ≡ (bit x j && bit y j)
bit_bit_and x y j = grind (arith, bit_at_and x y j, bit_at-lt x j, bit_at-lt y j)

pub bit_bit_or : (x y j : ℕ) → bit (bit_or x y) j ≡ (bit x j || bit y j)
bit_bit_or x y j = grind (arith, bit_at_or x y j, bit_at-lt x j, bit_at-lt y j)

pub bit_bit_not : (x j : ℕ) → x < 2 ^ word_size → j < word_size → bit ((2 ^ word_size - 1) - x) j ≡ not (bit x j)
bit_bit_not x j h l = grind (arith, bit_at_not w64 x j h l, bit_at-lt x j)

-- the largest word has every bit
pub bit_largest : (j : ℕ) → j < word_size → bit (2 ^ word_size - 1) j ≡ true
bit_largest j l = ap (λ m. eqb m 1) (bit_at_ones word_size j l)
