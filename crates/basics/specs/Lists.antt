-- Lists as tables, and what is left in memory that is written from the front.
-- Assumes nothing.
use Rattle.std.specs.Prelude.{ℕ, zero, suc, ◌-◌, List, [], ◌∷◌, ◌++◌, length, replicate, drop}

-- the list f 0, f 1, …, f (n - 1)
abbrev pub tabulate {ℓ} : {A : Type ℓ} → ℕ → (ℕ → A) → List A
tabulate zero f = []
tabulate (suc n) f = f 0 ∷ tabulate n (λ k. f (suc k))

-- the numbers below n, upward
abbrev pub below : ℕ → List ℕ
below n = tabulate n (λ k. k)

-- a list with zeros behind it, up to n entries
abbrev pub padded : ℕ → List ℕ → List ℕ
padded n l = l ++ replicate (n - length l) 0

-- what stands in front is written, and the rest is as it was
abbrev pub written : {A : Type 0} → List A → List A → List A
written front l = front ++ drop (length front) l
