-- Searches through the numbers below a bound, as the loops of the program make them.
-- Assumes nothing.
use Rattle.std.specs.Prelude.{ℕ, zero, suc, Bool, true, false, cond, ◌&&◌, eqb, ltb}

-- ok holds at every number below n
abbrev pub all : ℕ → (ℕ → Bool) → Bool
all zero ok = true
all (suc n) ok = elim (ok n) [ true ↦ all n ok | false ↦ false ]

-- ok holds at some number below n
abbrev pub any : ℕ → (ℕ → Bool) → Bool
any zero ok = false
any (suc n) ok = elim (ok n) [ true ↦ true | false ↦ any n ok ]

-- two lists of numbers, given by their entries, have the same first n
unfoldable pub agree : (ℕ → ℕ) → (ℕ → ℕ) → ℕ → Bool
agree f g zero = true
agree f g (suc n) = agree f g n && eqb (f n) (g n)

-- the least number below n that passes a test, or n
unfoldable pub first_that : (ℕ → Bool) → ℕ → ℕ
first_that p zero = 0
first_that p (suc n) = let r = first_that p n in cond (ltb r n) r (cond (p n) n (suc n))
