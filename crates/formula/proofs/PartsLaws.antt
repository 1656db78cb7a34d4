-- Parts against formulas.
-- Assumes nothing.
use Prim.Native.Nat.{ℕ, zero, suc, ◌+◌, ◌-◌, ◌≤◌, ◌<◌, pred}
use native.Mathlib.Nat.{le_trans, lt_trans, eq-or-lt_of_le, le_of_suc-le-suc}
use native.Mathlib.Numerals.{add-one}
use native.Mathlib.Omega.{arith}
use mathlib.Core.Path.{◌≡◌, refl, sym, ap, ap₂, ◌∙◌, subst}
use mathlib.Core.Logic.{◌⊎◌, inl, inr}
use mathlib.Core.List.{List, [], ◌∷◌, ◌++◌, append_assoc, append-nil}
use lib.ListN.{length, get_or, length-append, get_or-append, get_or-eq_default}
use lib.Seq.{get_or-append_seam}
use Rattle.formula.specs.declared.formula.Op.{Op}
use Rattle.formula.specs.declared.formula.Op.TheVariants as op
use Rattle.formula.specs.Formula.{Formula, signal, True, False, Not, And, Or, Implies, X, N, F, G, U, R, size}
use Rattle.formula.specs.Parts.{last_of, one_part, unary_parts, binary_parts, parts_from, parts_of, part_at, arity, Earlier, bottom_up, result_at, build, formula_at}
use Rattle.formula.specs.Parts.{reads, Ready, AllReady}
use Rattle.formula.specs.declared.parts.Part.{Part}

-- ---- results from the first part to the last

module _ {B : Type 0} (d : B) (f : ℕ → B → B → B) (ps : List Part) where
  length_bottom_up : (n : ℕ) → length (bottom_up d f ps n) ≡ n
  unfolding bottom_up
  length_bottom_up zero = refl
  length_bottom_up (suc n) = length-append (bottom_up d f ps n) _ ∙ ap (λ m. m + 1) (length_bottom_up n) ∙ add-one n

  -- a table's entry does not change as the table grows
  pub get_d_bottom_up : (n i : ℕ) → i < n → get_or (bottom_up d f ps n) i d ≡ result_at d f ps i
  unfolding bottom_up result_at
  get_d_bottom_up zero i h = absurd (omega arith)
  get_d_bottom_up (suc n) i h = at (eq-or-lt_of_le (le_of_suc-le-suc h)) (get_d_bottom_up n i)
    where
      at : (i ≡ n) ⊎ (i < n) → (i < n → get_or (bottom_up d f ps n) i d ≡ result_at d f ps i) → get_or (bottom_up d f ps (suc n)) i d ≡ result_at d f ps i
      at (inl e) ih = rw e
      at (inr l) ih = get_or-append (bottom_up d f ps n) _ d i (rw length_bottom_up l) ∙ ih l

  -- and no others
  pub bottom_up_out : (n i : ℕ) → n ≤ i → get_or (bottom_up d f ps n) i d ≡ d
  bottom_up_out n i h = get_or-eq_default (bottom_up d f ps n) d {n = i} (rw length_bottom_up h)

  pub result_at_last : (i : ℕ) → result_at d f ps i ≡ f i (get_or (bottom_up d f ps i) (part_at ps i).left d) (get_or (bottom_up d f ps i) (part_at ps i).right d)
  unfolding result_at bottom_up
  result_at_last i = ap (λ n. get_or (bottom_up d f ps (suc i)) n d) (sym (length_bottom_up i)) ∙ get_or-append_seam (bottom_up d f ps i) _ [] d

-- ---- what a part is, from its operands

-- f reads only the first n of its two arguments
abbrev pub Reads : {B C : Type 0} → ℕ → (B → B → C) → Type 0
Reads {B = B} n f = (x x' y y' : B) → (1 ≤ n → x ≡ x') → (2 ≤ n → y ≡ y') → f x y ≡ f x' y'

module _ {B C : Type 0} where
  pub reads_none : (c : C) → Reads {B = B} 0 (λ x y. c)
  reads_none c x x' y y' p q = refl

  pub reads_one : (f : B → C) → Reads {B = B} 1 (λ x y. f x)
  reads_one f x x' y y' p q = ap f (p (omega arith))

  pub reads_both : (f : B → B → C) → Reads 2 f
  reads_both f x x' y y' p q = ap₂ f (p (omega arith)) (q (omega arith))

build_reads : (k : Op) (b : ℕ) → Reads (arity k) (build k b)
build_reads op.Signal b = reads_none (signal b)
build_reads op.True b = reads_none True
build_reads op.False b = reads_none False
build_reads op.Not b = reads_one Not
build_reads op.And b = reads_both And
build_reads op.Or b = reads_both Or
build_reads op.Implies b = reads_both Implies
build_reads op.Next b = reads_one X
build_reads op.WeakNext b = reads_one N
build_reads op.Eventually b = reads_one F
build_reads op.Always b = reads_one G
build_reads op.Until b = reads_both U
build_reads op.Release b = reads_both R

-- the formula of a part is its operator over the formulas of its operands
pub formula_at_step : (ps : List Part) (i : ℕ) → Earlier ps i
    → formula_at ps i ≡ build (part_at ps i).kind (part_at ps i).left (formula_at ps (part_at ps i).left) (formula_at ps (part_at ps i).right)
unfolding formula_at
formula_at_step ps i e =
    result_at_last False _ ps i
    ∙ build_reads (part_at ps i).kind (part_at ps i).left _ _ _ _ (λ h. get_d_bottom_up False _ ps i _ (e.left_earlier h))
    (λ h. get_d_bottom_up False _ ps i _ (e.right_earlier h))

-- ---- parts put behind a list change nothing before them

module _ (ps ts : List Part) where
  part_at_append : (i : ℕ) → i < length ps → part_at (ps ++ ts) i ≡ part_at ps i
  unfolding part_at
  part_at_append i h = get_or-append ps ts _ i h

  bottom_up_append : {B : Type 0} (d : B) (f g : ℕ → B → B → B) (n : ℕ) → n ≤ length ps → ((i : ℕ) → i < n → f i ≡ g i)
      → bottom_up d f (ps ++ ts) n ≡ bottom_up d g ps n
  unfolding bottom_up
  bottom_up_append d f g zero h e = refl
  bottom_up_append d f g (suc n) h e = rw (part_at_append n h, bottom_up_append d f g n (omega arith) (λ i l. e i (omega arith)), e n (omega arith))

  formula_at_append : (i : ℕ) → i < length ps → formula_at (ps ++ ts) i ≡ formula_at ps i
  unfolding formula_at result_at
  formula_at_append i h =
      ap (λ t. get_or t i False) (bottom_up_append False _ _ (suc i) h (λ j l. rw (part_at_append j (omega arith))))

-- every part stands after its operands
unfoldable pub WellFormed : List Part → Type 0
WellFormed ps = (i : ℕ) → i < length ps → Earlier ps i

-- ---- what a value reads at its step is some of the operands

pub reads_few : (k : Op) → reads k ≤ arity k
reads_few op.Signal = omega arith
reads_few op.True = omega arith
reads_few op.False = omega arith
reads_few op.Not = omega arith
reads_few op.And = omega arith
reads_few op.Or = omega arith
reads_few op.Implies = omega arith
reads_few op.Next = omega arith
reads_few op.WeakNext = omega arith
reads_few op.Eventually = omega arith
reads_few op.Always = omega arith
reads_few op.Until = omega arith
reads_few op.Release = omega arith

pub earlier_ready : (ps : List Part) (i : ℕ) → Earlier ps i → Ready ps i
earlier_ready ps i e =
    let few = reads_few (part_at ps i).kind in
    record { left_ready = λ h. e.left_earlier (le_trans h few); right_ready = λ h. e.right_earlier (le_trans h few) }

-- ---- one more part

length_put : (q : Part) (qs : List Part) → length (qs ++ (q ∷ [])) ≡ suc (length qs)
length_put q qs = length-append qs (q ∷ []) ∙ add-one (length qs)

module _ (rs : List Part) (w : WellFormed rs) (q : Part)
    (l : 1 ≤ arity q.kind → q.left < length rs) (r : 2 ≤ arity q.kind → q.right < length rs) where
  part_at_new : part_at (rs ++ (q ∷ [])) (length rs) ≡ q
  unfolding part_at
  part_at_new = get_or-append_seam rs q [] _

  earlier_new : Earlier (rs ++ (q ∷ [])) (length rs)
  earlier_new = record { left_earlier = rw part_at_new l; right_earlier = rw part_at_new r }

  formed_new : WellFormed (rs ++ (q ∷ []))
  unfolding WellFormed
  formed_new i h = at (eq-or-lt_of_le (le_of_suc-le-suc (subst (λ n. i < n) (length_put q rs) h)))
    where
      at : (i ≡ length rs) ⊎ (i < length rs) → Earlier (rs ++ (q ∷ [])) i
      at (inl e) = rw e earlier_new
      at (inr k) =
          record {
            left_earlier = rw (part_at_append rs (q ∷ []) i k) (w i k).left_earlier;
            right_earlier = rw (part_at_append rs (q ∷ []) i k) (w i k).right_earlier;
          }

  formula_new : (x y : Formula) → (1 ≤ arity q.kind → formula_at rs q.left ≡ x) → (2 ≤ arity q.kind → formula_at rs q.right ≡ y)
      → formula_at (rs ++ (q ∷ [])) (length rs) ≡ build q.kind q.left x y
  formula_new x y hx hy =
      formula_at_step (rs ++ (q ∷ [])) (length rs) earlier_new
      ∙ rw part_at_new
      (build_reads q.kind q.left _ _ _ _ (λ k. formula_at_append rs (q ∷ []) q.left (l k) ∙ hx k)
      (λ k. formula_at_append rs (q ∷ []) q.right (r k) ∙ hy k))

-- ---- a formula's parts

-- how many there are
length_unary : (k : Op) (φ : Formula) (n : ℕ) → length (parts_from φ n) ≡ size φ → length (unary_parts k φ n (parts_from φ n)) ≡ size φ + 1
length_unary k φ n e = length-append (parts_from φ n) _ ∙ ap (λ m. m + 1) e

length_binary : (k : Op) (φ ψ : Formula) (n : ℕ) → length (parts_from φ n) ≡ size φ → length (parts_from ψ (n + size φ)) ≡ size ψ
    → length (binary_parts k φ ψ n (parts_from φ n) (parts_from ψ (n + size φ))) ≡ size φ + size ψ + 1
length_binary k φ ψ n e f = simp length-append (omega arith)

pub length_from : (φ : Formula) (n : ℕ) → length (parts_from φ n) ≡ size φ
unfolding parts_from size
length_from (signal b) n = refl
length_from True n = refl
length_from False n = refl
length_from (Not φ) n = length_unary op.Not φ n (length_from φ n)
length_from (X φ) n = length_unary op.Next φ n (length_from φ n)
length_from (N φ) n = length_unary op.WeakNext φ n (length_from φ n)
length_from (F φ) n = length_unary op.Eventually φ n (length_from φ n)
length_from (G φ) n = length_unary op.Always φ n (length_from φ n)
length_from (And φ ψ) n = length_binary op.And φ ψ n (length_from φ n) (length_from ψ (n + size φ))
length_from (Or φ ψ) n = length_binary op.Or φ ψ n (length_from φ n) (length_from ψ (n + size φ))
length_from (Implies φ ψ) n = length_binary op.Implies φ ψ n (length_from φ n) (length_from ψ (n + size φ))
length_from (U φ ψ) n = length_binary op.Until φ ψ n (length_from φ n) (length_from ψ (n + size φ))
length_from (R φ ψ) n = length_binary op.Release φ ψ n (length_from φ n) (length_from ψ (n + size φ))

-- ts are parts of φ, to stand behind ps
record Written (φ : Formula) (ps ts : List Part) : Type 0 where
  some : 0 < length ts
  formed : WellFormed (ps ++ ts)
  tree : formula_at (ps ++ ts) (last_of (ps ++ ts)) ≡ φ

pred_lt : (m n : ℕ) → m < n → pred n < n
pred_lt m n h = omega arith

last_lt : {φ : Formula} {ps ts : List Part} → Written φ ps ts → last_of (ps ++ ts) < length (ps ++ ts)
last_lt {φ} {ps} {ts} w = pred_lt (length ps) (length (ps ++ ts)) (omega (arith, length-append ps ts))

-- a part over operands that are there already
written_put : (ps ts : List Part) → WellFormed (ps ++ ts) → (q : Part) → (1 ≤ arity q.kind → q.left < length (ps ++ ts))
    → (2 ≤ arity q.kind → q.right < length (ps ++ ts)) → (x y : Formula) → (1 ≤ arity q.kind → formula_at (ps ++ ts) q.left ≡ x)
    → (2 ≤ arity q.kind → formula_at (ps ++ ts) q.right ≡ y) → Written (build q.kind q.left x y) ps (ts ++ (q ∷ []))
written_put ps ts w q l r x y hx hy =
    record {
      some = omega (arith, length_put q ts);
      formed = rw (← append_assoc ps ts (q ∷ [])) (formed_new (ps ++ ts) w q l r);
      tree = rw (← append_assoc ps ts (q ∷ []), length_put q (ps ++ ts)) (formula_new (ps ++ ts) w q l r x y hx hy);
    }

-- a part without operands
written_leaf : (k : Op) (b : ℕ) (ps : List Part) → arity k ≡ 0 → WellFormed ps → Written (build k b True True) ps (one_part k b 0)
written_leaf k b ps z w =
    written_put ps [] (rw append-nil w) (record { kind = k; left = b; right = 0 }) (λ h. absurd (omega arith)) (λ h. absurd (omega arith)) True True
    (λ h. absurd (omega arith)) (λ h. absurd (omega arith))

-- the parts of x behind n others
module _ (x : Formula) (k : Op) (ps : List Part) (n : ℕ) (e : length ps ≡ n) (w : Written x ps (parts_from x n)) where
  abbrev xs : List Part
  xs = ps ++ parts_from x n

  length_xs : length xs ≡ n + size x
  length_xs = length-append ps (parts_from x n) ∙ omega (arith, length_from x n)

  last_xs : n + size x - 1 ≡ last_of xs
  last_xs = rw length_xs (omega arith)

  -- a part with x as its operand
  written_unary : arity k ≡ 1 → Written (build k (n + size x - 1) x True) ps (unary_parts k x n (parts_from x n))
  written_unary o =
      written_put ps (parts_from x n) w.formed (record { kind = k; left = n + size x - 1; right = 0 }) (λ h. rw last_xs (last_lt w))
      (λ h. absurd (omega arith)) x True (λ h. rw last_xs w.tree) (λ h. absurd (omega arith))

  -- a part with x and y as its operands, the parts of y being the last
  written_binary : (y : Formula) → ((qs : List Part) (m : ℕ) → length qs ≡ m → WellFormed qs → Written y qs (parts_from y m))
      → Written (build k (n + size x - 1) x y) ps (binary_parts k x y n (parts_from x n) (parts_from y (n + size x)))
  written_binary y f =
      written_put ps (parts_from x n ++ ys) (rw (← append_assoc ps (parts_from x n) ys) v.formed)
      (record { kind = k; left = n + size x - 1; right = n + size x + size y - 1 })
      (λ h. rw (last_xs, ← append_assoc ps (parts_from x n) ys) (lt_trans (last_lt w) grown))
      (λ h. rw (last_ys, ← append_assoc ps (parts_from x n) ys) (last_lt v)) x y
      (λ h. rw (last_xs, ← append_assoc ps (parts_from x n) ys) (formula_at_append xs ys (last_of xs) (last_lt w) ∙ w.tree))
      (λ h. rw (last_ys, ← append_assoc ps (parts_from x n) ys) v.tree)
    where
      ys : List Part
      ys = parts_from y (n + size x)

      v : Written y xs ys
      v = f xs (n + size x) length_xs w.formed

      grown : length xs < length (xs ++ ys)
      grown = omega (arith, v.some, length-append xs ys)

      last_ys : n + size x + size y - 1 ≡ last_of (xs ++ ys)
      last_ys = rw (length-append xs ys, length_xs, length_from y (n + size x)) (omega arith)

written : (φ : Formula) (ps : List Part) (n : ℕ) → length ps ≡ n → WellFormed ps → Written φ ps (parts_from φ n)
unfolding parts_from
written (signal b) ps n e w = written_leaf op.Signal b ps refl w
written True ps n e w = written_leaf op.True 0 ps refl w
written False ps n e w = written_leaf op.False 0 ps refl w
written (Not φ) ps n e w = written_unary φ op.Not ps n e (written φ ps n e w) refl
written (X φ) ps n e w = written_unary φ op.Next ps n e (written φ ps n e w) refl
written (N φ) ps n e w = written_unary φ op.WeakNext ps n e (written φ ps n e w) refl
written (F φ) ps n e w = written_unary φ op.Eventually ps n e (written φ ps n e w) refl
written (G φ) ps n e w = written_unary φ op.Always ps n e (written φ ps n e w) refl
written (And φ ψ) ps n e w = written_binary φ op.And ps n e (written φ ps n e w) ψ (written ψ)
written (Or φ ψ) ps n e w = written_binary φ op.Or ps n e (written φ ps n e w) ψ (written ψ)
written (Implies φ ψ) ps n e w = written_binary φ op.Implies ps n e (written φ ps n e w) ψ (written ψ)
written (U φ ψ) ps n e w = written_binary φ op.Until ps n e (written φ ps n e w) ψ (written ψ)
written (R φ ψ) ps n e w = written_binary φ op.Release ps n e (written φ ps n e w) ψ (written ψ)

-- ---- the theorems

module _ (φ : Formula) where
  written_parts : Written φ [] (parts_of φ)
  unfolding parts_of WellFormed
  written_parts = written φ [] 0 refl (λ i h. absurd (omega arith))

  pub parts_formed : WellFormed (parts_of φ)
  parts_formed = written_parts.formed

  pub parts_ready : AllReady (parts_of φ)
  unfolding AllReady WellFormed
  parts_ready i h = earlier_ready (parts_of φ) i (parts_formed i h)

  pub parts_inside : (i : ℕ) → i < length (parts_of φ) → 1 ≤ arity (part_at (parts_of φ) i).kind → (part_at (parts_of φ) i).left < length (parts_of φ)
  unfolding WellFormed
  parts_inside i h l = lt_trans ((parts_formed i h).left_earlier l) h

  -- reading the parts of a formula gives the formula back
  pub parts_formula : formula_at (parts_of φ) (last_of (parts_of φ)) ≡ φ
  parts_formula = written_parts.tree

  pub length_parts : length (parts_of φ) ≡ size φ
  unfolding parts_of
  length_parts = length_from φ 0

  pub parts_some : 0 < length (parts_of φ)
  parts_some = written_parts.some

  pub last_below : last_of (parts_of φ) < length (parts_of φ)
  last_below = last_lt written_parts
