-- The values of any parts on a trace: each obeys its operator's equation.
-- Assumes nothing.
use Prim.Native.Nat.{ℕ, zero, suc, ◌≤◌, ◌<◌}
use native.Mathlib.Omega.{arith}
use mathlib.Core.Path.{◌≡◌, refl, ap, ap₂, ◌∙◌}
use mathlib.Core.Bool.{Bool, true, false, not, ◌&&◌, ◌||◌}
use mathlib.Core.List.{List, [], ◌∷◌, ◌++◌}
use lib.Dec.{ltb}
use lib.ListN.{length, get_or, get_or-eq_default}
use borrow.Author.Tests.{ltb-true, ltb-false}
use Rattle.formula.specs.declared.formula.Op.{Op}
use Rattle.formula.specs.declared.formula.Op.TheVariants as op
use Rattle.basics.specs.Bits.{bit}
use Rattle.formula.specs.Semantics.{Trace}
use Rattle.formula.specs.Parts.{Part, byte_of, is_temporal, part_at, reads, Ready, bottom_up, result_at}
use Rattle.formula.specs.Values.{combine, owed, value_with, owed_with, owed_on, value_on}
use Rattle.formula.proofs.PartsLaws.{Reads, reads_none, reads_one, reads_both, get_d_bottom_up, bottom_up_out, result_at_last}

-- a value reads at its step only the operands that `reads` says
pub combine_reads : (k : Op) (s o : Bool) → Reads (reads k) (combine k s o)
combine_reads op.Signal s o = reads_none s
combine_reads op.True s o = reads_none true
combine_reads op.False s o = reads_none false
combine_reads op.Not s o = reads_one not
combine_reads op.And s o = reads_both ◌&&◌
combine_reads op.Or s o = reads_both ◌||◌
combine_reads op.Implies s o = reads_both (combine op.Implies s o)
combine_reads op.Next s o = reads_none o
combine_reads op.WeakNext s o = reads_none (not o)
combine_reads op.Eventually s o = reads_one (λ x. x || o)
combine_reads op.Always s o = reads_one (λ x. x && not o)
combine_reads op.Until s o = reads_both (combine op.Until s o)
combine_reads op.Release s o = reads_both (combine op.Release s o)

-- and its own obligation only if it is temporal
pub combine_own : (k : Op) (s o o' x y : Bool) → (is_temporal (byte_of k) ≡ true → o ≡ o') → combine k s o x y ≡ combine k s o' x y
combine_own op.Signal s o o' x y e = refl
combine_own op.True s o o' x y e = refl
combine_own op.False s o o' x y e = refl
combine_own op.Not s o o' x y e = refl
combine_own op.And s o o' x y e = refl
combine_own op.Or s o o' x y e = refl
combine_own op.Implies s o o' x y e = refl
combine_own op.Next s o o' x y e = e refl
combine_own op.WeakNext s o o' x y e = ap not (e refl)
combine_own op.Eventually s o o' x y e = ap (λ q. x || q) (e refl)
combine_own op.Always s o o' x y e = ap (λ q. x && not q) (e refl)
combine_own op.Until s o o' x y e = ap (λ q. y || (x && q)) (e refl)
combine_own op.Release s o o' x y e = ap (λ q. y && (x || not q)) (e refl)

combine_none : (k : Op) → k ≡ op.False → (s o x y : Bool) → combine k s o x y ≡ false
combine_none k e s o x y = ap (λ q. combine q s o x y) e

owed_none : (k : Op) → k ≡ op.False → (x v : Bool) → owed k x v ≡ false
owed_none k e x v = ap (λ q. owed q x v) e

module _ (ps : List Part) where
  -- ---- at a step

  module _ (a : ℕ) where
    -- the value of a part is its operator's over the values of its operands; one that does not stand before it counts as false
    pub with_any : (o : ℕ → Bool) (i : ℕ)
        → value_with ps a o i
        ≡ combine (part_at ps i).kind (bit a (part_at ps i).left) (o i)
        (ltb (part_at ps i).left i && value_with ps a o (part_at ps i).left) (ltb (part_at ps i).right i && value_with ps a o (part_at ps i).right)
    unfolding value_with
    with_any o i =
        result_at_last false _ ps i
        ∙ ap₂ (combine (part_at ps i).kind (bit a (part_at ps i).left) (o i)) (operand (part_at ps i).left) (operand (part_at ps i).right)
      where
        f : ℕ → Bool → Bool → Bool
        f n x y = combine (part_at ps n).kind (bit a (part_at ps n).left) (o n) x y

        operand : (j : ℕ) → get_or (bottom_up false f ps i) j false ≡ (ltb j i && result_at false f ps j)
        operand j = at (ltb j i) refl
          where
            at : (b : Bool) → ltb j i ≡ b → get_or (bottom_up false f ps i) j false ≡ (b && result_at false f ps j)
            at true l = get_d_bottom_up false f ps i j (ltb-true j i l)
            at false l = bottom_up_out false f ps i j (ltb-false j i l)

    -- where all that it reads stand before it, over those of its operands as they are
    pub with_step : (o : ℕ → Bool) (i : ℕ) → Ready ps i
        → value_with ps a o i
        ≡ combine (part_at ps i).kind (bit a (part_at ps i).left) (o i) (value_with ps a o (part_at ps i).left) (value_with ps a o (part_at ps i).right)
    unfolding value_with
    with_step o i r =
        result_at_last false _ ps i
        ∙ combine_reads (part_at ps i).kind (bit a (part_at ps i).left) (o i) _ _ _ _
        (λ h. get_d_bottom_up false _ ps i _ (r.left_ready h)) (λ h. get_d_bottom_up false _ ps i _ (r.right_ready h))

    -- it goes by the obligations of the temporal parts up to it
    module _ (o o' : ℕ → Bool) where
      abbrev Same : ℕ → Type 0
      Same n = (i : ℕ) → i < n → is_temporal (byte_of (part_at ps i).kind) ≡ true → o i ≡ o' i

      abbrev table : (ℕ → Bool) → ℕ → List Bool
      table p n = bottom_up false (λ i x y. combine (part_at ps i).kind (bit a (part_at ps i).left) (p i) x y) ps n

      tables_same : (n : ℕ) → Same n → table o n ≡ table o' n
      unfolding bottom_up
      tables_same zero e = refl
      tables_same (suc n) e =
          let q = part_at ps n in
          let same = tables_same n (λ i h. e i (omega arith)) in
          ap₂ (λ t v. t ++ (v ∷ [])) same
          (ap (λ t. combine q.kind (bit a q.left) (o n) (get_or t q.left false) (get_or t q.right false)) same
          ∙ combine_own q.kind (bit a q.left) (o n) (o' n) _ _ (e n (omega arith)))

      pub with_same : (i : ℕ) → Same (suc i) → value_with ps a o i ≡ value_with ps a o' i
      unfolding value_with result_at
      with_same i e = ap (λ t. get_or t i false) (tables_same (suc i) e)

  -- ---- on a trace

  -- a part's value obeys its operator's equation
  pub value_step : (a : ℕ) (π : Trace) (i : ℕ) → Ready ps i
      → value_on ps (a ∷ π) i
      ≡ combine (part_at ps i).kind (bit a (part_at ps i).left) (owed_on ps π i) (value_on ps (a ∷ π) (part_at ps i).left)
      (value_on ps (a ∷ π) (part_at ps i).right)
  unfolding value_on
  value_step a π i r = with_step a (owed_on ps π) i r

  pub owed_step : (a : ℕ) (π : Trace) (i : ℕ) → owed_on ps (a ∷ π) i ≡ owed_with ps (value_on ps (a ∷ π)) i
  unfolding owed_on value_on
  owed_step a π i = refl

  -- past the last part nothing is true or owed
  module _ (i : ℕ) (h : length ps ≤ i) where
    kind_out : (part_at ps i).kind ≡ op.False
    unfolding part_at
    kind_out = ap (λ (q : Part). q.kind) (get_or-eq_default ps _ {n = i} h)

    pub value_out : (π : Trace) → value_on ps π i ≡ false
    unfolding value_on value_with
    value_out [] = refl
    value_out (a ∷ π) = result_at_last false _ ps i ∙ combine_none (part_at ps i).kind kind_out _ _ _ _

    pub owed_out : (π : Trace) → owed_on ps π i ≡ false
    unfolding owed_on
    owed_out [] = refl
    owed_out (a ∷ π) = owed_step a π i ∙ owed_none (part_at ps i).kind kind_out _ _
