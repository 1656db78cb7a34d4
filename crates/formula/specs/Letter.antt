-- Letters: one step's values as a number. Each kind of signals has `kind_limit` bits, output signals the lowest and hidden ones the highest.
-- Assumes nothing.
use Rattle.std.specs.Prelude.{ℕ, ◌+◌, ◌*◌, ◌/◌, ◌%◌, ◌^◌, ◌≤◌, ◌<◌, ◌≡◌, ◌⊎◌, Bool, true, ◌&&◌, ltb}
use Rattle.basics.specs.Limits.{kind_limit}
use Rattle.basics.specs.Bits.{bit}

-- how many signals of each kind a letter is over
pub record Counts : Type 0 where
  pub outputs : ℕ
  pub observed : ℕ
  pub hidden : ℕ

-- bit b is that of a signal: each kind has the lowest of its bits
abbrev pub HasSignal : Counts → ℕ → Type 0
HasSignal c b =
    (b < c.outputs) ⊎ ((kind_limit ≤ b) × (b < kind_limit + c.observed)) ⊎ ((2 * kind_limit ≤ b) × (b < 2 * kind_limit + c.hidden))

-- no bit of the letter is without a signal
abbrev pub IsLetter : Counts → ℕ → Type 0
IsLetter c a = (b : ℕ) → bit a b ≡ true → HasSignal c b

-- values of the signals of one kind
abbrev pub kind_size : ℕ
kind_size = 2 ^ kind_limit

-- the letter of the values of the output, the observed and the hidden signals
abbrev pub letter_from : ℕ → ℕ → ℕ → ℕ
letter_from o s h = o + s * kind_size + h * (kind_size * kind_size)

-- `IsLetter`, tested kind by kind (`proofs/LetterLaws.antt`)
unfoldable pub is_letter : Counts → ℕ → Bool
is_letter c a =
    ltb (a % kind_size) (2 ^ c.outputs) && (ltb (a / kind_size % kind_size) (2 ^ c.observed) && ltb (a / (kind_size * kind_size)) (2 ^ c.hidden))
