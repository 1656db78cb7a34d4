-- What the first difference of two texts says: as many lines as stand before it are common to both, and no more.
-- Assumes nothing.
use Prim.Native.Nat.{ℕ, zero, suc, ◌+◌}
use Rattle.std.specs.Prelude.{Some, None}
use native.Mathlib.Omega.{arith}
use mathlib.Core.Path.{◌≡◌, refl, sym, ap, ap₂, ◌∙◌, subst}
use mathlib.Core.Logic.{◌⊎◌, inl, inr}
use mathlib.Core.Bool.{true, false, cond}
use mathlib.Core.List.{List, [], ◌∷◌, ◌++◌}
use lib.Dec.{eqb}
use lib.ListN.{length}
use borrow.Author.Tests.{eqb-true, eqb-false, eq-eqb, not-true}
use Rattle.basics.proofs.Booleans.{test, clash}
use Rattle.basics.specs.Bytes.{not_line_end}
use Rattle.basics.specs.Pieces.{Unparted}
use Rattle.loader.specs.LoadedAs.{Lines}
use Rattle.loader.specs.Difference.{difference}

pub no_difference : (n : ℕ) (s : List ℕ) → difference n s s ≡ None
unfolding difference
no_difference n [] = refl
no_difference n (a ∷ s) = rw (eq-eqb a a refl) (no_difference (cond (eqb a 10) (suc n) n) s)

-- both texts begin with the same k lines
abbrev pub Common : (k : ℕ) (s t : List ℕ) → Type 0
Common k s t = (u : List ℕ) × (v : List ℕ) × (w : List ℕ) × Lines k u × (s ≡ u ++ v) × (t ≡ u ++ w)

-- what is common to texts that begin with a byte
common_head : (k a b : ℕ) (s t : List ℕ) → Common (suc k) (a ∷ s) (b ∷ t)
    → (a ≡ b) × (((a ≡ 10) × Common k s t) ⊎ ((not_line_end a ≡ true) × Common (suc k) s t))
common_head k a b s t (u, v, w, (l, x, p, ls, e), es, et) = go l p e
  where
    go : (l : List ℕ) → Unparted not_line_end l → u ≡ l ++ (10 ∷ x)
        → (a ≡ b) × (((a ≡ 10) × Common k s t) ⊎ ((not_line_end a ≡ true) × Common (suc k) s t))
    go [] p e =
        let es' : a ∷ s ≡ 10 ∷ (x ++ v) = es ∙ ap (λ y. y ++ v) e in
        let et' : b ∷ t ≡ 10 ∷ (x ++ w) = et ∙ ap (λ y. y ++ w) e in
        let ea : a ≡ 10 = cc in
        let eb : b ≡ 10 = cc in
        (ea ∙ sym eb, inl (ea, (x, v, w, ls, cc, cc)))
    go (y ∷ l) (q, p) e =
        let es' : a ∷ s ≡ y ∷ ((l ++ (10 ∷ x)) ++ v) = es ∙ ap (λ z. z ++ v) e in
        let et' : b ∷ t ≡ y ∷ ((l ++ (10 ∷ x)) ++ w) = et ∙ ap (λ z. z ++ w) e in
        let ea : a ≡ y = cc in
        let eb : b ≡ y = cc in
        (ea ∙ sym eb, inr (ap not_line_end ea ∙ q, (l ++ (10 ∷ x), v, w, (l, x, p, ls, refl), cc, cc)))

-- one byte more in front
common_end : (k : ℕ) (s t : List ℕ) → Common k s t → Common (suc k) (10 ∷ s) (10 ∷ t)
common_end k s t (u, v, w, ls, es, et) = (10 ∷ u, v, w, ([], u, tt, ls, refl), ap (λ x. 10 ∷ x) es, ap (λ x. 10 ∷ x) et)

common_byte : (k a : ℕ) (s t : List ℕ) → not_line_end a ≡ true → Common k s t → Common k (a ∷ s) (a ∷ t)
common_byte zero a s t q c = ([], a ∷ s, a ∷ t, refl, refl, refl)
common_byte (suc k) a s t q (u, v, w, (l, x, p, ls, e), es, et) =
    (a ∷ u, v, w, (a ∷ l, x, (q, p), ls, ap (λ y. a ∷ y) e), ap (λ y. a ∷ y) es, ap (λ y. a ∷ y) et)

none_common : (s t : List ℕ) → Common 0 s t
none_common s t = ([], s, t, refl, refl, refl)

-- an empty text has no line
empty_left : (k : ℕ) (t : List ℕ) → Common (suc k) [] t → ⊥
empty_left k t (u, v, w, (l, x, p, ls, e), es, et) = go l e
  where
    go : (l : List ℕ) → u ≡ l ++ (10 ∷ x) → ⊥
    go [] e = omega (arith, ap length (es ∙ ap (λ y. y ++ v) e))
    go (y ∷ l) e = omega (arith, ap length (es ∙ ap (λ y. y ++ v) e))

common_sym : (k : ℕ) (s t : List ℕ) → Common k s t → Common k t s
common_sym k s t (u, v, w, ls, es, et) = (u, w, v, ls, et, es)

-- where the line of the first difference is m, the first being n: m - n lines are common, and no more
abbrev pub Differs : ℕ → List ℕ → List ℕ → ℕ → Type 0
Differs n s t m = (k : ℕ) × (m ≡ n + k) × Common k s t × (Common (suc k) s t → ⊥)

here : (n : ℕ) (s t : List ℕ) (m : ℕ) → n ≡ m → (Common 1 s t → ⊥) → Differs n s t m
here n s t m e most = (0, omega arith, none_common s t, most)

pub first_difference : (n : ℕ) (s t : List ℕ) (m : ℕ) → difference n s t ≡ Some m → Differs n s t m
unfolding difference
first_difference n [] [] m e = absurd cc
first_difference n [] (b ∷ t) m e = here n [] (b ∷ t) m (cc) (empty_left 0 (b ∷ t))
first_difference n (a ∷ s) [] m e = here n (a ∷ s) [] m (cc) (λ c. empty_left 0 (a ∷ s) (common_sym 1 (a ∷ s) [] c))
first_difference n (a ∷ s) (b ∷ t) m e =
    elim (test (eqb a b)) [
      | inl q ↦ by_line (eqb-true a b q) (test (eqb a 10)) (rw q at e) (λ n. first_difference n s t m)
      | inr q ↦ let f : Some n ≡ Some m = rw q at e in here n (a ∷ s) (b ∷ t) m (cc) (λ c. eqb-false a b q (common_head 0 a b s t c).0)
    ]
  where
    by_line : a ≡ b → (eqb a 10 ≡ true) ⊎ (eqb a 10 ≡ false) → difference (cond (eqb a 10) (suc n) n) s t ≡ Some m
        → ((n : ℕ) → difference n s t ≡ Some m → Differs n s t m) → Differs n (a ∷ s) (b ∷ t) m
    by_line ab (inl l) e ih =
        let (k, h, c, most) = ih (suc n) (rw l at e) in
        let ten = eqb-true a 10 l in
        let made : Common (suc k) (a ∷ s) (b ∷ t) =
        subst (λ x. Common (suc k) (a ∷ s) (x ∷ t)) ab (subst (λ x. Common (suc k) (x ∷ s) (x ∷ t)) (sym ten) (common_end k s t c)) in (
          suc k,
          omega arith,
          made,
          λ d. elim (common_head (suc k) a b s t d).1 [ inl (x, y) ↦ most y | inr (x, y) ↦ clash l (not-true (eqb a 10) x) ],
        )
    by_line ab (inr l) e ih =
        let (k, h, c, most) = ih n (rw l at e) in
        let byte : not_line_end a ≡ true = rw l refl in
        let made : Common k (a ∷ s) (b ∷ t) = subst (λ x. Common k (a ∷ s) (x ∷ t)) ab (common_byte k a s t byte c) in (
          k,
          h,
          made,
          λ d. elim (common_head k a b s t d).1 [ inl (x, y) ↦ clash (eq-eqb a 10 x) l | inr (x, y) ↦ most y ],
        )

-- no difference
pub same_text : (n : ℕ) (s t : List ℕ) → difference n s t ≡ None → s ≡ t
unfolding difference
same_text n [] [] e = refl
same_text n [] (b ∷ t) e = absurd cc
same_text n (a ∷ s) [] e = absurd cc
same_text n (a ∷ s) (b ∷ t) e =
    elim (test (eqb a b)) [
      | inl q ↦ ap₂ (λ x y. x ∷ y) (eqb-true a b q) (by_line (test (eqb a 10)) (rw q at e) (λ n. same_text n s t))
      | inr q ↦ absurd (let z : Some n ≡ None = rw q at e in cc)
    ]
  where
    by_line : (eqb a 10 ≡ true) ⊎ (eqb a 10 ≡ false) → difference (cond (eqb a 10) (suc n) n) s t ≡ None
        → ((n : ℕ) → difference n s t ≡ None → s ≡ t) → s ≡ t
    by_line (inl l) e ih = ih (suc n) (rw l at e)
    by_line (inr l) e ih = ih n (rw l at e)
