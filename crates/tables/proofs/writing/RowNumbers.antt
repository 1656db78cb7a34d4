-- The number of a position among the rows so far.
-- Assumes nothing.
use Prim.Native.Nat.{ℕ, suc, ◌+◌, ◌-◌, ◌≤◌, ◌<◌}
use native.Mathlib.Numerals.{add-one}
use native.Mathlib.Omega.{arith}
use mathlib.Core.Path.{◌≡◌, refl, sym, ap, ◌∙◌}
use mathlib.Core.Bool.{Bool, true, false, cond, ◌||◌}
use mathlib.Core.List.{List, [], ◌∷◌, ◌++◌}
use lib.Dec.{eqb}
use lib.ListN.{length, get_or, take, drop}
use lib.Seq.{length-take-le, take-suc, take-add, drop-cons}
use borrow.Author.Tests.{eq-eqb, ne_eqb}
use Rattle.basics.specs.Reach.{is_in, index_in}

-- ---- where an entry stands

module _ {A : Type 0} (same : A → A → Bool) (x : A) where
  -- what is not in the front of a list is counted on behind it
  index_past : (xs ys : List A) → index_in same x xs ≡ length xs → index_in same x (xs ++ ys) ≡ length xs + index_in same x ys
  unfolding index_in
  index_past [] ys e = omega arith
  index_past (z ∷ xs) ys e = at (same x z) e (index_past xs ys)
    where
      at : (b : Bool) → cond b 0 (suc (index_in same x xs)) ≡ suc (length xs)
          → (index_in same x xs ≡ length xs → index_in same x (xs ++ ys) ≡ length xs + index_in same x ys)
          → cond b 0 (suc (index_in same x (xs ++ ys))) ≡ suc (length xs) + index_in same x ys
      at true q ih = absurd (omega arith)
      at false q ih = omega (arith, ih (omega arith))

  pub index_le : (xs : List A) → index_in same x xs ≤ length xs
  unfolding index_in
  index_le [] = omega arith
  index_le (z ∷ xs) = at (same x z) (index_le xs)
    where
      at : (b : Bool) → index_in same x xs ≤ length xs → cond b 0 (suc (index_in same x xs)) ≤ suc (length xs)
      at true q = omega arith
      at false q = omega arith

  -- at the end of a list stands what is not in it
  pub index_out : (xs : List A) → index_in same x xs ≡ length xs → is_in same x xs ≡ false
  unfolding index_in is_in
  index_out [] e = refl
  index_out (z ∷ xs) e = at (same x z) e (index_out xs)
    where
      at : (b : Bool) → cond b 0 (suc (index_in same x xs)) ≡ suc (length xs) → (index_in same x xs ≡ length xs → is_in same x xs ≡ false)
          → (b || is_in same x xs) ≡ false
      at true q ih = absurd (omega arith)
      at false q ih = ih (omega arith)

  pub index_in_lem : (xs : List A) → (index_in same x xs ≡ length xs → ⊥) → is_in same x xs ≡ true
  unfolding index_in is_in
  index_in_lem [] n = absurd (n refl)
  index_in_lem (z ∷ xs) n = at (same x z) n (index_in_lem xs)
    where
      at : (b : Bool) → (cond b 0 (suc (index_in same x xs)) ≡ suc (length xs) → ⊥) → ((index_in same x xs ≡ length xs → ⊥) → is_in same x xs ≡ true)
          → (b || is_in same x xs) ≡ true
      at true q ih = refl
      at false q ih = ih (λ e. q (ap suc e))

module _ (rows : List ℕ) (k : ℕ) where
  -- no row before i is k
  abbrev pub Passed : ℕ → Type 0
  Passed i = index_in eqb k (take i rows) ≡ i

  pub passed_none : Passed 0
  unfolding index_in
  passed_none = refl

  pub passed_more : (m i : ℕ) → m ≤ length rows → i < m → Passed i → (get_or rows i 0 ≡ k → ⊥) → Passed (i + 1)
  unfolding index_in
  passed_more m i fits h e n =
      let l : length (take i rows) ≡ i = length-take-le i rows (omega arith) in
      let d : eqb k (get_or rows i 0) ≡ false = ne_eqb k (get_or rows i 0) (λ q. n (sym q)) in
      ap (λ j. index_in eqb k (take j rows)) (add-one i) ∙ ap (index_in eqb k) (take-suc rows i 0 (omega arith))
      ∙ index_past eqb k (take i rows) (get_or rows i 0 ∷ []) (e ∙ sym l) ∙ ap (λ b. length (take i rows) + cond b 0 1) d ∙ ap (λ j. j + 1) l

  -- row i is the first that is k
  pub passed_found : (m i : ℕ) → m ≤ length rows → i < m → Passed i → get_or rows i 0 ≡ k → i ≡ index_in eqb k (take m rows)
  unfolding index_in
  passed_found m i fits h e n =
      let l : length (take i rows) ≡ i = length-take-le i rows (omega arith) in
      let d : eqb k (get_or rows i 0) ≡ true = eq-eqb k (get_or rows i 0) (sym n) in
      let q : m ≡ i + suc (m - suc i) = omega arith in
      let w : List ℕ = take (m - suc i) (drop (suc i) rows) in
      sym (
      ap (λ j. index_in eqb k (take j rows)) q ∙ ap (index_in eqb k) (take-add i (suc (m - suc i)) rows)
      ∙ index_past eqb k (take i rows) (take (suc (m - suc i)) (drop i rows)) (e ∙ sym l)
      ∙ ap (λ t. length (take i rows) + index_in eqb k (take (suc (m - suc i)) t)) (drop-cons rows i 0 (omega arith))
      ∙ ap (λ b. length (take i rows) + cond b 0 (suc (index_in eqb k w))) d ∙ omega (arith, l)
      )
