-- The plan words (PDDL 3.0's trajectory constraints) as formulas. `Meanings` says what each has to mean, and
-- `proofs/ConstraintsLaws.antt` shows that its formula does.
-- Assumes nothing.
use Rattle.std.specs.Prelude.{ℕ, zero, suc, ◌-◌}
use Rattle.formula.specs.Formula.{Formula, Not, And, Or, X, N, F, G, U}

-- φ at this step or at one of the next n
unfoldable pub soon : ℕ → Formula → Formula
soon zero φ = φ
soon (suc n) φ = Or φ (X (soon n φ))

-- φ at this step and at each of the next n that there are
unfoldable pub hold : ℕ → Formula → Formula
hold zero φ = φ
hold (suc n) φ = And φ (N (hold n φ))

-- φ at the n-th step after this one, if there is one
unfoldable pub delay : ℕ → Formula → Formula
delay zero φ = φ
delay (suc n) φ = N (delay n φ)

-- at-most-once: φ never comes back after it has been true and then false
abbrev pub once : Formula → Formula
once φ = Not (F (And φ (F (And (Not φ) (F φ)))))

-- sometime-before: φ does not come without ψ at an earlier step
abbrev pub before : Formula → Formula → Formula
before φ ψ = Not (U (Not ψ) φ)

-- sometime-after: wherever φ is true, ψ is true then or later
abbrev pub after : Formula → Formula → Formula
after φ ψ = G (Or (Not φ) (F ψ))

-- always-within: wherever φ is true, ψ is true then or at one of the next n steps
abbrev pub within : ℕ → Formula → Formula → Formula
within n φ ψ = G (Or (Not φ) (soon n ψ))

-- hold-during: φ at each step from the m-th to the n-th, this one being the first; 1 ≤ m ≤ n
abbrev pub during : ℕ → ℕ → Formula → Formula
during m n φ = delay (m - 1) (hold (n - m) φ)
