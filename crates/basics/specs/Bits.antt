-- Numbers made of bits: a letter is a number whose bit b is the value of signal b, and an obligation pattern is such a number.
-- Assumes nothing.
use Rattle.std.specs.Prelude.{ℕ, ◌/◌, ◌%◌, ◌^◌, ◌+◌, ◌*◌, Bool, true, false, eqb, List, [], ◌∷◌}

-- bit k of n, the lowest being bit 0
abbrev pub bit : ℕ → ℕ → Bool
bit n k = eqb (n / 2 ^ k % 2) 1

-- a Boolean as a bit
abbrev pub digit : Bool → ℕ
digit true = 1
digit false = 0

-- the number whose bits are the list's, the lowest first
unfoldable pub from_bits : List Bool → ℕ
from_bits [] = 0
from_bits (b ∷ bs) = from_bits bs * 2 + digit b
