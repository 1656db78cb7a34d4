-- The states accept exactly the traces on which the last part is true: those that make the formula true, if the parts are a formula's.
-- Assumes nothing.
use Prim.Native.Nat.{ℕ, suc, ◌^◌, ◌<◌}
use native.Mathlib.Omega.{arith}
use mathlib.Core.Path.{◌≡◌, ◌∙◌}
use mathlib.Core.Logic.{◌↔◌}
use mathlib.Core.Bool.{true, false}
use mathlib.Core.List.{List, [], ◌∷◌, foldr}
use lib.ListN.{length}
use Rattle.basics.specs.Bits.{bit}
use Rattle.formula.specs.Formula.{Formula}
use Rattle.formula.specs.Semantics.{Trace, Sat, holds}
use Rattle.formula.specs.declared.parts.Part.{Part}
use Rattle.formula.specs.Parts.{last_of, parts_of}
use Rattle.formula.specs.Values.{value_on}
use Rattle.formula.proofs.Agreement.{holds_iff_Sat}
use Rattle.formula.proofs.FormulaValues.{value_parts}
use Rattle.rules.specs.Problem.{Problem, problem_parts}
use Rattle.rules.specs.Satisfies.{Satisfies}
use Rattle.rules.proofs.ProblemLaws.{means}
use Rattle.search.specs.PatternSet.{member, start, accepts}
use Rattle.obligations.specs.Obligation.{operators_of, value_at, owed_at, back, pattern_on}
use Rattle.states.specs.States.{start_state, state_after}
use Rattle.search.proofs.PatternSetLaws.{member-set_of, start_rejects, member_after, accepts_after}
use Rattle.obligations.proofs.ObligationLaws.{value_pattern}
use Rattle.obligations.proofs.CarriedBack.{pattern_whole, back_fits}

-- after a trace the state accepts exactly when the last part is true on it
pub accepts_value : (ps : List Part) (a : ℕ) (π : Trace) → accepts (state_after ps (a ∷ π)) ≡ value_on ps (a ∷ π) (last_of ps)
unfolding state_after start_state pattern_on back
accepts_value ps a π =
    accepts_after (operators_of ps) (back ps) (back_fits ps) (a ∷ π)
    ∙ pattern_whole ps (owed_at ps a (pattern_on ps π)) (value_at ps a (pattern_on ps π) (last_of ps))
    ∙ value_pattern ps a π (last_of ps)

-- a pattern is in the state after some letters exactly if, carried back over them, it makes the formula true at the first
pub member-state_after : (ps : List Part) (a : ℕ) (π : Trace) (p : ℕ) → p < 2 ^ suc (operators_of ps)
    → member (state_after ps (a ∷ π)) p ≡ value_at ps a (foldr (back ps) p π) (last_of ps)
unfolding state_after start_state start back
member-state_after ps a π p h =
    member_after (operators_of ps) (back ps) (back_fits ps) (a ∷ π) (start_state ps) p h
    ∙ member-set_of (operators_of ps) (λ q. bit q (operators_of ps)) (back ps a (foldr (back ps) p π)) (back_fits ps a (foldr (back ps) p π))
    ∙ pattern_whole ps (owed_at ps a (foldr (back ps) p π)) (value_at ps a (foldr (back ps) p π) (last_of ps))

-- the start accepts nothing: a trace has a step
pub start_state_rejects : (ps : List Part) → accepts (start_state ps) ≡ false
unfolding start_state
start_state_rejects ps = start_rejects (operators_of ps)

-- ---- of a formula

pub accepts_iff_holds : (φ : Formula) (π : Trace) → 0 < length π → accepts (state_after (parts_of φ) π) ≡ holds φ π
accepts_iff_holds φ [] h = absurd (omega arith)
accepts_iff_holds φ (a ∷ π) h = accepts_value (parts_of φ) a π ∙ value_parts φ (a ∷ π)

pub accepts_iff_Sat : (φ : Formula) (π : Trace) → 0 < length π → (accepts (state_after (parts_of φ) π) ≡ true) ↔ Sat π 0 φ
accepts_iff_Sat φ π h = rw (accepts_iff_holds φ π h) (holds_iff_Sat φ π h)

-- ---- of a problem

pub accepts_iff_satisfies : (p : Problem) (π : Trace) → 0 < length π → (accepts (state_after (problem_parts p) π) ≡ true) ↔ Satisfies π p
accepts_iff_satisfies p [] h = absurd (omega arith)
accepts_iff_satisfies p (a ∷ π) h = rw (accepts_value (problem_parts p) a π) (means p (a ∷ π) h)
