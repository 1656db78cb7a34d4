-- A list that grows by what is not in it yet, and the places of its entries.
-- Assumes nothing.
use Prim.Native.Nat.{ℕ, zero, suc, ◌+◌, ◌≤◌, ◌<◌}
use native.Mathlib.Nat.{eq-or-lt_of_le, le_of_suc-le-suc}
use native.Mathlib.Numerals.{add-one}
use native.Mathlib.Omega.{arith}
use mathlib.Core.Path.{◌≡◌, refl, sym, ap, ◌∙◌, subst}
use mathlib.Core.Logic.{◌⊎◌, inl, inr}
use mathlib.Core.Bool.{Bool, true, false, cond, ◌||◌, true≢false, false≢true}
use mathlib.Core.List.{List, [], ◌∷◌, ◌++◌, map, map-append, foldl-append}
use lib.ListN.{length, get_or, length-append}
use Rattle.basics.specs.Lists.{below}
use Rattle.basics.specs.Reach.{is_in, index_in, add_new, add_all}
use Rattle.basics.proofs.ListsLaws.{tabulate_suc}

module _ {A : Type 0} (same : A → A → Bool) where
  -- ---- where an entry stands

  -- the first entry that is the same
  pub index_found : (x e : A) (xs : List A) (i : ℕ) → i < length xs → same x (get_or xs i e) ≡ true → ((j : ℕ) → j < i → same x (get_or xs j e) ≡ false)
      → (index_in same x xs ≡ i) × (is_in same x xs ≡ true)
  unfolding index_in is_in
  index_found x e [] i h t f = absurd (omega arith)
  index_found x e (y ∷ ys) zero h t f = rw t (refl, refl)
  index_found x e (y ∷ ys) (suc i) h t f =
      let n : same x y ≡ false = f 0 (omega arith) in
      let r = index_found x e ys i (le_of_suc-le-suc h) t (λ j l. f (suc j) (omega arith)) in
      rw n (ap suc r.0, r.1)

  -- no entry is the same
  pub index_none : (x e : A) (xs : List A) → ((j : ℕ) → j < length xs → same x (get_or xs j e) ≡ false) → is_in same x xs ≡ false
  unfolding is_in
  index_none x e [] f = refl
  index_none x e (y ∷ ys) f =
      let n : same x y ≡ false = f 0 (omega arith) in
      rw n (index_none x e ys (λ j l. f (suc j) (omega arith)))

  -- an entry stays where it is when more are put behind
  pub index_kept : (x : A) (xs ys : List A) → is_in same x xs ≡ true → (index_in same x (xs ++ ys) ≡ index_in same x xs) × (is_in same x (xs ++ ys) ≡ true)
  unfolding index_in is_in
  index_kept x [] ys e = absurd (false≢true e)
  index_kept x (z ∷ zs) ys e = at (same x z) e (λ k. index_kept x zs ys k)
    where
      at : (b : Bool) → (b || is_in same x zs) ≡ true
          → (is_in same x zs ≡ true → (index_in same x (zs ++ ys) ≡ index_in same x zs) × (is_in same x (zs ++ ys) ≡ true))
          → (cond b 0 (suc (index_in same x (zs ++ ys))) ≡ cond b 0 (suc (index_in same x zs))) × ((b || is_in same x (zs ++ ys)) ≡ true)
      at true k ih = (refl, refl)
      at false k ih = (ap suc (ih k).0, (ih k).1)

  -- a new entry stands at the end
  pub index_last : (x : A) (xs : List A) → same x x ≡ true → is_in same x xs ≡ false
      → (index_in same x (xs ++ (x ∷ [])) ≡ length xs) × (is_in same x (xs ++ (x ∷ [])) ≡ true)
  unfolding index_in is_in
  index_last x [] s e = rw s (refl, refl)
  index_last x (z ∷ zs) s e = at (same x z) e (λ k. index_last x zs s k)
    where
      at : (b : Bool) → (b || is_in same x zs) ≡ false
          → (is_in same x zs ≡ false → (index_in same x (zs ++ (x ∷ [])) ≡ length zs) × (is_in same x (zs ++ (x ∷ [])) ≡ true))
          → (cond b 0 (suc (index_in same x (zs ++ (x ∷ [])))) ≡ suc (length zs)) × ((b || is_in same x (zs ++ (x ∷ []))) ≡ true)
      at true k ih = absurd (true≢false k)
      at false k ih = (ap suc (ih k).0, (ih k).1)

  -- ---- what is put behind a list

  pub add_old : (xs : List A) (x : A) → is_in same x xs ≡ true → add_new same xs x ≡ xs
  unfolding add_new
  add_old xs x e = rw e

  pub add_new_lem : (xs : List A) (x : A) → is_in same x xs ≡ false → add_new same xs x ≡ xs ++ (x ∷ [])
  unfolding add_new
  add_new_lem xs x e = rw e

  -- what is in the list keeps its place
  pub index_added : (x : A) (xs : List A) (y : A) → is_in same x xs ≡ true
      → (index_in same x (add_new same xs y) ≡ index_in same x xs) × (is_in same x (add_new same xs y) ≡ true)
  index_added x xs y h = at (is_in same y xs) refl
    where
      at : (b : Bool) → is_in same y xs ≡ b → (index_in same x (add_new same xs y) ≡ index_in same x xs) × (is_in same x (add_new same xs y) ≡ true)
      at true e = rw (add_old xs y e) (refl, h)
      at false e = rw (add_new_lem xs y e) (index_kept x xs (y ∷ []) h)

  add_longer : (xs : List A) (x : A) → length xs ≤ length (add_new same xs x)
  add_longer xs x = at (is_in same x xs) refl
    where
      at : (b : Bool) → is_in same x xs ≡ b → length xs ≤ length (add_new same xs x)
      at true e = rw (add_old xs x e) (omega arith)
      at false e = rw (add_new_lem xs x e, length-append) (omega arith)

  module _ (f : ℕ → A) (xs : List A) where
    pub all_none : add_all same xs (map f (below 0)) ≡ xs
    unfolding add_all
    all_none = refl

    pub all_more : (a : ℕ) → add_all same xs (map f (below (a + 1))) ≡ add_new same (add_all same xs (map f (below a))) (f a)
    unfolding add_all
    all_more a =
        ap (λ k. add_all same xs (map f (below k))) (add-one a)
        ∙ ap (λ l. add_all same xs (map f l)) (tabulate_suc a (λ k. k))
        ∙ ap (add_all same xs) (map-append f (below a) (a ∷ []))
        ∙ foldl-append (add_new same) xs (map f (below a)) (f a ∷ [])

    -- a list never gets shorter
    pub all_longer : (k n : ℕ) → k ≤ n → length (add_all same xs (map f (below k))) ≤ length (add_all same xs (map f (below n)))
    all_longer k zero h = let e : k ≡ 0 = omega arith in rw e (omega arith)
    all_longer k (suc n) h = at (λ l. all_longer k n l) (eq-or-lt_of_le h)
      where
        at : (k ≤ n → length (add_all same xs (map f (below k))) ≤ length (add_all same xs (map f (below n)))) → (k ≡ suc n) ⊎ (k < suc n)
            → length (add_all same xs (map f (below k))) ≤ length (add_all same xs (map f (below (suc n))))
        at ih (inl e) = subst (λ j. length (add_all same xs (map f (below k))) ≤ length (add_all same xs (map f (below j)))) e (omega arith)
        at ih (inr l) =
            let more : add_all same xs (map f (below (suc n))) ≡ add_new same (add_all same xs (map f (below n))) (f n)
            = ap (λ j. add_all same xs (map f (below j))) (sym (add-one n)) ∙ all_more n in
            let longer : length (add_all same xs (map f (below n))) ≤ length (add_new same (add_all same xs (map f (below n))) (f n)) = add_longer _ (f n) in
            subst (λ l. length (add_all same xs (map f (below k))) ≤ length l) (sym more) (omega (arith, ih (le_of_suc-le-suc l), longer))
