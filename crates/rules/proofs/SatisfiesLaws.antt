-- A trace satisfies a problem exactly where it satisfies the formula that joins its lines. Assumes nothing.
use Rattle.std.specs.Prelude.{Option, Some, None}
use Prim.Native.Nat.{◌<◌}
use mathlib.Core.Path.{◌≡◌, refl, subst, sym}
use mathlib.Core.Logic.{◌↔◌}
use mathlib.Core.Bool.{true}
use mathlib.Core.List.Memᴰ
use mathlib.Core.List.{List, [], ◌∷◌, foldl}
use lib.ListN.{length}
use Rattle.basics.specs.Member.{◌∈◌}
use Rattle.formula.specs.Formula.{Formula}
use Rattle.formula.specs.Semantics.{Trace, Sat, holds}
use Rattle.rules.specs.Problem.{Line, rule, joined, with_line, or_true, Problem, formula_in}
use Rattle.rules.specs.Satisfies.{Meets, Satisfies}
use Rattle.formula.proofs.Agreement.{holds_iff_Sat}

module _ (π : Trace) where
  SatOf : Option Formula → Type 0
  SatOf None = Unit {0}
  SatOf (Some φ) = Sat π 0 φ

  All : List Line → Type 0
  All ls = (l : Line) → l ∈ ls → Meets π l

  all_more : (l : Line) (ls : List Line) → Meets π l → All ls → All (l ∷ ls)
  unfolding All
  all_more l ls m a k (Memᴰ.head e) = subst (Meets π) (sym e) m
  all_more l ls m a k (Memᴰ.tail i) = a k i

  joined_sat : (f : Option Formula) (φ : Formula) → (SatOf f × Sat π 0 φ) ↔ Sat π 0 (joined f φ)
  unfolding SatOf Sat
  joined_sat None φ = (λ s. s.1, λ s. (tt, s))
  joined_sat (Some ψ) φ = (λ s. s, λ s. s)

  -- lines joined to a formula
  lines_sat : (ls : List Line) (f : Option Formula) → (SatOf f × All ls) ↔ SatOf (foldl with_line f ls)
  unfolding All SatOf
  lines_sat [] f = (λ s. s.0, λ s. (s, λ l m. absurd (Memᴰ.not-nil m)))
  lines_sat (rule φ ∷ ls) f =
      let (to, from) = lines_sat ls (Some (joined f φ)) in (
        λ s. to ((joined_sat f φ).0 (s.0, s.1 (rule φ) (Memᴰ.head refl)), λ l m. s.1 l (Memᴰ.tail m)),
        λ s. let (j, a) = from s in let (g, m) = (joined_sat f φ).1 j in (g, all_more (rule φ) ls m a),
      )

  or_true_lem : (f : Option Formula) → SatOf f ↔ Sat π 0 (or_true f)
  unfolding SatOf Sat
  or_true_lem None = (λ s. s, λ s. s)
  or_true_lem (Some φ) = (λ s. s, λ s. s)

  pub satisfies_formula : (p : Problem) → Satisfies π p ↔ Sat π 0 (formula_in p)
  unfolding All SatOf
  satisfies_formula p =
      let (to, from) = lines_sat p.lines None in
      let (sat, was) = or_true_lem (foldl with_line None p.lines) in
      (λ s. sat (to (tt, s)), λ s. (from (was s)).1)

-- the evaluator says whether a trace satisfies a problem
pub holds_iff_satisfies : (p : Problem) (π : Trace) → 0 < length π → (holds (formula_in p) π ≡ true) ↔ Satisfies π p
holds_iff_satisfies p π h =
    let (sat, was) = holds_iff_Sat (formula_in p) π h in
    let (to, from) = satisfies_formula π p in
    (λ e. from (sat e), λ s. was (to s))
