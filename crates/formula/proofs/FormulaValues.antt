-- Among any parts, those that make up a formula have its value on every trace.
-- Assumes nothing.
use Prim.Native.Nat.{ℕ, zero, suc, ◌≤◌, ◌<◌}
use native.Mathlib.Nat.{le_trans, lt_trans}
use native.Mathlib.Omega.{arith}
use mathlib.Core.Path.{◌≡◌, refl, sym, ap, ◌∙◌}
use mathlib.Core.Bool.{Bool, true, false, not, ◌&&◌, ◌||◌, not-not}
use mathlib.Core.List.{List, [], ◌∷◌}
use lib.ListN.{length}
use Rattle.formula.specs.declared.formula.Op.{Op}
use Rattle.formula.specs.declared.formula.Op.TheVariants as op
use Rattle.basics.specs.Bits.{bit}
use Rattle.formula.specs.Formula.{Formula, F, G, U, R}
use Rattle.formula.specs.Semantics.{Trace, Property, or_at_end, holds}
use Rattle.formula.specs.Parts.{Part, last_of, parts_of, part_at, arity, Earlier, build, formula_at}
use Rattle.formula.specs.Values.{combine, owed, owed_on, value_on}
use Rattle.formula.proofs.PartsLaws.{reads_few, earlier_ready, formula_at_step, WellFormed, parts_formed, parts_formula, last_below}
use Rattle.formula.proofs.ValuesLaws.{combine_reads, value_step, owed_step}

-- ---- a formula at the first of some steps

-- what the obligation of a part that is the formula φ, with the left operand x, says of the rest of a trace
abbrev asks : Op → Formula → Formula → Property
asks k x φ π = owed k (holds x π) (holds φ π)

-- `N`, `G` and `R` keep the negation of what they need
not_or_at_end : (f : Property) (π : Trace) → not (or_at_end false (λ σ. not (f σ)) π) ≡ or_at_end true f π
not_or_at_end f [] = refl
not_or_at_end f (a ∷ π) = not-not (f (a ∷ π))

-- a property that has the value d at the end needs no case for it
or_at_end_own : (d : Bool) (f : Property) → f [] ≡ d → (π : Trace) → or_at_end d f π ≡ f π
or_at_end_own d f e [] = sym e
or_at_end_own d f e (a ∷ π) = refl

holds_build : (k : Op) (b : ℕ) (x y : Formula) (a : ℕ) (π : Trace)
    → holds (build k b x y) (a ∷ π)
    ≡ combine k (bit a b) (or_at_end false (asks k x (build k b x y)) π) (holds x (a ∷ π)) (holds y (a ∷ π))
unfolding holds
holds_build op.Signal b x y a π = refl
holds_build op.True b x y a π = refl
holds_build op.False b x y a π = refl
holds_build op.Not b x y a π = refl
holds_build op.And b x y a π = refl
holds_build op.Or b x y a π = refl
holds_build op.Implies b x y a π = refl
holds_build op.Next b x y a π = refl
holds_build op.WeakNext b x y a π = sym (not_or_at_end (holds x) π)
holds_build op.Eventually b x y a π = ap (λ o. holds x (a ∷ π) || o) (sym (or_at_end_own false (holds (F x)) refl π))
holds_build op.Always b x y a π = ap (λ o. holds x (a ∷ π) && o) (sym (not_or_at_end (holds (G x)) π ∙ or_at_end_own true (holds (G x)) refl π))
holds_build op.Until b x y a π = ap (λ o. holds y (a ∷ π) || (holds x (a ∷ π) && o)) (sym (or_at_end_own false (holds (U x y)) refl π))
holds_build op.Release b x y a π =
    ap (λ o. holds y (a ∷ π) && (holds x (a ∷ π) || o)) (sym (not_or_at_end (holds (R x y)) π ∙ or_at_end_own true (holds (R x y)) refl π))

-- an obligation reads the left operand only where there is one
owed_left : (k : Op) (x x' v : Bool) → (1 ≤ arity k → x ≡ x') → owed k x v ≡ owed k x' v
owed_left op.Signal x x' v e = refl
owed_left op.True x x' v e = refl
owed_left op.False x x' v e = refl
owed_left op.Not x x' v e = refl
owed_left op.And x x' v e = refl
owed_left op.Or x x' v e = refl
owed_left op.Implies x x' v e = refl
owed_left op.Next x x' v e = e (omega arith)
owed_left op.WeakNext x x' v e = ap not (e (omega arith))
owed_left op.Eventually x x' v e = refl
owed_left op.Always x x' v e = refl
owed_left op.Until x x' v e = refl
owed_left op.Release x x' v e = refl

-- ---- the parts of a formula

-- parts whose operands stand before them and are again such parts
pub record Closed (ps : List Part) (In : ℕ → Type 0) : Type 0 where
  pub earlier : (i : ℕ) → In i → Earlier ps i
  pub left_in : (i : ℕ) → In i → 1 ≤ arity (part_at ps i).kind → In (part_at ps i).left
  pub right_in : (i : ℕ) → In i → 2 ≤ arity (part_at ps i).kind → In (part_at ps i).right

module _ (ps : List Part) (In : ℕ → Type 0) (c : Closed ps In) where
  -- their values on a trace are those of their formulas
  abbrev Right : Trace → Type 0
  Right π = (i : ℕ) → In i → value_on ps π i ≡ or_at_end false (holds (formula_at ps i)) π

  owed_right : (π : Trace) → Right π → (i : ℕ) → In i
      → owed_on ps π i ≡ or_at_end false (asks (part_at ps i).kind (formula_at ps (part_at ps i).left) (formula_at ps i)) π
  unfolding owed_on
  owed_right [] r i h = refl
  owed_right (b ∷ π) r i h =
      let q = part_at ps i in
      owed_step ps b π i ∙ owed_left q.kind _ _ _ (λ l. r q.left (c.left_in i h l)) ∙ ap (owed q.kind _) (r i h)

  -- those before part n
  up_to : (a : ℕ) (π : Trace) → Right π → (n i : ℕ) → i < n → In i → value_on ps (a ∷ π) i ≡ holds (formula_at ps i) (a ∷ π)
  up_to a π r zero i l h = absurd (omega arith)
  up_to a π r (suc n) i l h =
      let e = c.earlier i h in
      let q = part_at ps i in
      let x = formula_at ps q.left in
      let y = formula_at ps q.right in
      let few = reads_few q.kind in
      let step = formula_at_step ps i e in
      value_step ps a π i (earlier_ready ps i e)
      ∙ ap (λ o. combine q.kind (bit a q.left) o (value_on ps (a ∷ π) q.left) (value_on ps (a ∷ π) q.right)) (owed_right π r i h)
      ∙ combine_reads q.kind (bit a q.left) _ _ (holds x (a ∷ π)) _ (holds y (a ∷ π))
      (λ b. let has = le_trans b few in up_to a π r n q.left (omega (arith, e.left_earlier has)) (c.left_in i h has))
      (λ b. let has = le_trans b few in up_to a π r n q.right (omega (arith, e.right_earlier has)) (c.right_in i h has))
      ∙ sym (ap (λ φ. holds φ (a ∷ π)) step ∙ holds_build q.kind q.left x y a π
      ∙ ap (λ φ. combine q.kind (bit a q.left) (or_at_end false (asks q.kind x φ) π) (holds x (a ∷ π)) (holds y (a ∷ π))) (sym step))

  pub value_formula : (π : Trace) → Right π
  unfolding value_on
  value_formula [] i h = refl
  value_formula (a ∷ π) i h = up_to a π (value_formula π) (suc i) i (omega arith) h

-- ---- all parts of a formula

formed_closed : (ps : List Part) → WellFormed ps → Closed ps (λ i. i < length ps)
unfolding WellFormed
formed_closed ps w =
    record {
      earlier = w;
      left_in = λ i h l. lt_trans ((w i h).left_earlier l) h;
      right_in = λ i h l. lt_trans ((w i h).right_earlier l) h;
    }

-- its last part has its value
pub value_parts : (φ : Formula) (π : Trace) → value_on (parts_of φ) π (last_of (parts_of φ)) ≡ or_at_end false (holds φ) π
value_parts φ π =
    value_formula (parts_of φ) (λ i. i < length (parts_of φ)) (formed_closed (parts_of φ) (parts_formed φ)) π (last_of (parts_of φ)) (last_below φ)
    ∙ ap (λ ψ. or_at_end false (holds ψ) π) (parts_formula φ)
