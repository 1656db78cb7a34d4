-- What a formula means on a trace (a run in the trade's words): a list of letters, one for each step (REFERENCE.md, Meaning).
-- `Sat` is the published relation, and `holds` is the evaluator. `proofs/Agreement.antt` shows that they agree.
-- Assumes nothing.
use Rattle.std.specs.Prelude.{ℕ, suc, ◌≤◌, ◌<◌, ◌≡◌, ◌⊎◌, Bool, true, false, not, ◌&&◌, ◌||◌, length, get_or}
use mathlib.Core.List.{List, [], ◌∷◌, tail}
use Rattle.basics.specs.Bits.{bit}
use Rattle.formula.specs.Formula.{Formula, signal, True, False, Not, And, Or, Implies, X, N, F, G, U, R}

abbrev pub Trace : Type 0
Trace = List ℕ

-- Some step j of π from i on has Q, and all those from i up to j, without j, have P.
abbrev pub Until : Trace → (ℕ → Type 0) → (ℕ → Type 0) → ℕ → Type 0
Until π P Q i = (j : ℕ) × (i ≤ j) × (j < length π) × Q j × ((k : ℕ) → i ≤ k → k < j → P k)

-- π, i ⊨ φ: De Giacomo and Vardi, "Synthesis for LTL and LDL on Finite Traces", section 2, with steps counted from 0, so
-- that i + 1 < length π says that step i is not the last. `R` is the dual of `U`: p R q is Not (Not p U Not q).
unfoldable pub Sat : Trace → ℕ → Formula → Type 0
Sat π i (signal b) = bit (get_or π i 0) b ≡ true
Sat π i True = Unit {0}
Sat π i False = ⊥
Sat π i (Not φ) = ¬ Sat π i φ
Sat π i (And φ ψ) = Sat π i φ × Sat π i ψ
Sat π i (Or φ ψ) = Sat π i φ ⊎ Sat π i ψ
Sat π i (Implies φ ψ) = Sat π i φ → Sat π i ψ
Sat π i (X φ) = (suc i < length π) × Sat π (suc i) φ
Sat π i (N φ) = suc i < length π → Sat π (suc i) φ
Sat π i (F φ) = (j : ℕ) × (i ≤ j) × (j < length π) × Sat π j φ
Sat π i (G φ) = (j : ℕ) → i ≤ j → j < length π → Sat π j φ
Sat π i (U φ ψ) = Until π (λ k. Sat π k φ) (λ j. Sat π j ψ) i
Sat π i (R φ ψ) = ¬ Until π (λ k. ¬ Sat π k φ) (λ j. ¬ Sat π j ψ) i

-- ---- the evaluator: a property is a test of what is left of a trace, its first step being the present one

abbrev pub Property : Type 0
Property = Trace → Bool

-- the property where a step is left, and d at the end of the trace
abbrev pub or_at_end : Bool → Property → Property
or_at_end d f [] = d
or_at_end d f (a ∷ π) = f (a ∷ π)

-- the property at the next step: d at the last step
abbrev pub at_next : Bool → Property → Property
at_next d f π = or_at_end d f (tail π)

abbrev pub eventually : Property → Property
eventually f [] = false
eventually f (a ∷ π) = f (a ∷ π) || eventually f π

abbrev pub always : Property → Property
always f [] = true
always f (a ∷ π) = f (a ∷ π) && always f π

abbrev pub until : Property → Property → Property
until f g [] = false
until f g (a ∷ π) = g (a ∷ π) || (f (a ∷ π) && until f g π)

abbrev pub release : Property → Property → Property
release f g [] = true
release f g (a ∷ π) = g (a ∷ π) && (f (a ∷ π) || release f g π)

-- φ is true at the first step of the trace
unfoldable pub holds : Formula → Property
holds (signal b) π = bit (get_or π 0 0) b
holds True π = true
holds False π = false
holds (Not φ) π = not (holds φ π)
holds (And φ ψ) π = holds φ π && holds ψ π
holds (Or φ ψ) π = holds φ π || holds ψ π
holds (Implies φ ψ) π = not (holds φ π) || holds ψ π
holds (X φ) π = at_next false (holds φ) π
holds (N φ) π = at_next true (holds φ) π
holds (F φ) π = eventually (holds φ) π
holds (G φ) π = always (holds φ) π
holds (U φ ψ) π = until (holds φ) (holds ψ) π
holds (R φ ψ) π = release (holds φ) (holds ψ) π
