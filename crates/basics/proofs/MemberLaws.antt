-- Membership, and lists without repeats.
-- Assumes nothing.
use Prim.Native.Nat.{ℕ, zero, suc, ◌≤◌, ◌<◌, suc-le-suc}
use native.Mathlib.Nat.{not-suc-le-zero, le_of_suc-le-suc}
use native.Mathlib.Decide.{dec_lt}
use native.Mathlib.Omega.{arith}
use mathlib.Core.Path.{◌≡◌, refl, sym, ap, ◌∙◌, subst}
use mathlib.Core.Logic.{◌↔◌, ◌⊎◌, inl, inr}
use mathlib.Core.Bool.{Bool, true}
use mathlib.Core.List.Memᴰ
use mathlib.Core.List.{List, [], ◌∷◌, ◌++◌}
use lib.ListN.{length, get_or, set, take}
use Rattle.basics.specs.Lists.{tabulate, below}
use Rattle.basics.proofs.ListsLaws.{length_tabulate, get_d_tabulate}
use Rattle.basics.specs.Member.{◌∈◌, all_of, Distinct, distinct_nil, distinct_cons}
use Rattle.basics.specs.Says.{Says}
use Rattle.basics.proofs.Booleans.{and_true, and_left, and_right}

-- an entry has an index, and an index below the length has an entry
pub index_of_lem {ℓ} : {A : Type ℓ} {x : A} {xs : List A} (d : A) → x ∈ xs → (i : ℕ) × (i < length xs) × (get_or xs i d ≡ x)
index_of_lem d (Memᴰ.head e) = (0, omega arith, sym e)
index_of_lem d (Memᴰ.tail m) = let r = index_of_lem d m in (suc r.0, omega (arith, r.1), r.2)

pub get_d_in {ℓ} : {A : Type ℓ} (xs : List A) (i : ℕ) (d : A) → i < length xs → get_or xs i d ∈ xs
get_d_in [] i d h = absurd (not-suc-le-zero h)
get_d_in (x ∷ xs) zero d h = Memᴰ.head refl
get_d_in (x ∷ xs) (suc i) d h = Memᴰ.tail (get_d_in xs i d (le_of_suc-le-suc h))

pub in_tabulate {ℓ} : {A : Type ℓ} (n : ℕ) (f : ℕ → A) (x : A) → (x ∈ tabulate n f) ↔ ((i : ℕ) × (i < n) × (f i ≡ x))
in_tabulate {A = A} n f x = (to, from)
  where
    to : x ∈ tabulate n f → (i : ℕ) × (i < n) × (f i ≡ x)
    to m =
        let r = index_of_lem (f 0) m in
        let h : r.0 < n = subst (λ k. r.0 < k) (length_tabulate n f) r.1 in
        (r.0, h, sym (get_d_tabulate n f r.0 (f 0) h) ∙ r.2)

    from : (i : ℕ) × (i < n) × (f i ≡ x) → x ∈ tabulate n f
    from r =
        Memᴰ.cast (sym (get_d_tabulate n f r.0 (f 0) r.1 ∙ r.2))
        (get_d_in (tabulate n f) r.0 (f 0) (subst (λ k. r.0 < k) (sym (length_tabulate n f)) r.1))

-- a test of all entries says that each passes it
pub all_of_says : {A : Type 0} (ok : A → Bool) (xs : List A) → Says (all_of ok xs) ((x : A) → x ∈ xs → ok x ≡ true)
all_of_says ok [] = (λ e x m. absurd (Memᴰ.not-nil m), λ h. refl)
all_of_says ok (x ∷ xs) = (
  λ e y m. elim (Memᴰ.cases_cons m) [
    | inl p ↦ ap ok p ∙ and_left (ok x) (all_of ok xs) e
    | inr k ↦ (all_of_says ok xs).0 (and_right (ok x) (all_of ok xs) e) y k
  ],
  λ h. and_true (h x (Memᴰ.head refl)) ((all_of_says ok xs).1 (λ y m. h y (Memᴰ.tail m))),
)

pub in_below : (n i : ℕ) → (i ∈ below n) ↔ (i < n)
in_below n i = (λ m. let r = (in_tabulate n (λ k. k) i).0 m in subst (λ k. k < n) r.2 r.1, λ h. (in_tabulate n (λ k. k) i).1 (i, h, refl))

-- an entry of a list with one entry put in place
pub in_set : {A : Type 0} {x y : A} (xs : List A) (i : ℕ) → x ∈ set xs i y → (x ≡ y) ⊎ (x ∈ xs)
in_set [] i m = inr m
in_set (z ∷ xs) zero (Memᴰ.head e) = inl e
in_set (z ∷ xs) zero (Memᴰ.tail m) = inr (Memᴰ.tail m)
in_set (z ∷ xs) (suc i) (Memᴰ.head e) = inr (Memᴰ.head e)
in_set (z ∷ xs) (suc i) (Memᴰ.tail m) = elim (in_set xs i m) [ inl e ↦ inl e | inr k ↦ inr (Memᴰ.tail k) ]

module _ {A : Type 0} where
  pub distinct_snoc : {xs : List A} (x : A) → Distinct xs → ¬ (x ∈ xs) → Distinct (xs ++ (x ∷ []))
  distinct_snoc x distinct_nil n = distinct_cons (λ m. Memᴰ.not-nil m) distinct_nil
  distinct_snoc x (distinct_cons {x = y} {xs = ys} fresh d) n = distinct_cons (λ m. new (Memᴰ.append_cases ys m))
      (distinct_snoc x d (λ m. n (Memᴰ.tail m)))
    where
      new : (y ∈ ys) ⊎ (y ∈ x ∷ []) → ⊥
      new (inl m) = fresh m
      new (inr m) = n (Memᴰ.head (sym (Memᴰ.eq_of_singleton m)))

  pub in_take : {x : A} (n : ℕ) (xs : List A) → x ∈ take n xs → x ∈ xs
  in_take zero xs m = absurd (Memᴰ.not-nil m)
  in_take (suc n) [] m = m
  in_take (suc n) (y ∷ ys) (Memᴰ.head e) = Memᴰ.head e
  in_take (suc n) (y ∷ ys) (Memᴰ.tail m) = Memᴰ.tail (in_take n ys m)

  pub distinct_take : (n : ℕ) {xs : List A} → Distinct xs → Distinct (take n xs)
  distinct_take zero d = distinct_nil
  distinct_take (suc n) distinct_nil = distinct_nil
  distinct_take (suc n) (distinct_cons {xs = ys} fresh d) = distinct_cons (λ m. fresh (in_take n ys m)) (distinct_take n d)

  -- its entries differ ..
  pub distinct_at : {xs : List A} → Distinct xs → (i j : ℕ) (e : A) → i < j → j < length xs → get_or xs i e ≡ get_or xs j e → ⊥
  distinct_at distinct_nil i j e h l p = absurd (omega arith)
  distinct_at (distinct_cons fresh d) zero zero e h l p = absurd (omega arith)
  distinct_at (distinct_cons {xs = xs} fresh d) zero (suc j) e h l p = fresh (Memᴰ.cast p (get_d_in xs j e (le_of_suc-le-suc l)))
  distinct_at (distinct_cons fresh d) (suc i) zero e h l p = absurd (omega arith)
  distinct_at (distinct_cons fresh d) (suc i) (suc j) e h l p = distinct_at d i j e (le_of_suc-le-suc h) (le_of_suc-le-suc l) p

  pub distinct_index : {xs : List A} → Distinct xs → (i j : ℕ) (e : A) → i < length xs → j < length xs → get_or xs i e ≡ get_or xs j e → i ≡ j
  distinct_index d i j e ib jb p =
      elim (dec_lt i j) [
        | yes l ↦ absurd (distinct_at d i j e l jb p)
        | no k ↦ elim (dec_lt j i) [ yes l ↦ absurd (distinct_at d j i e l ib (sym p)) | no m ↦ omega arith ]
      ]

  -- .. and a list of different entries is one
  pub distinct_tabulate : (n : ℕ) (f : ℕ → A) → ((i j : ℕ) → i < n → j < n → f i ≡ f j → i ≡ j) → Distinct (tabulate n f)
  distinct_tabulate zero f one = distinct_nil
  distinct_tabulate (suc n) f one =
      distinct_cons
      (λ m.
      let (i, h, e) = (in_tabulate n (λ k. f (suc k)) (f 0)).0 m in
      let z : 0 ≡ suc i = one 0 (suc i) (omega arith) (suc-le-suc h) (sym e) in
      absurd (omega arith))
      (distinct_tabulate n (λ k. f (suc k)) (λ i j h l p. let z = one (suc i) (suc j) (suc-le-suc h) (suc-le-suc l) p in omega arith))

  -- ---- a list without repeats is no longer than one that holds all its entries

  -- ys without one x
  Without : A → List A → Type 0
  Without x ys = (zs : List A) × (suc (length zs) ≡ length ys) × ((y : A) → y ∈ ys → (y ≡ x) ⊎ (y ∈ zs))

  without : {x : A} {ys : List A} → x ∈ ys → Without x ys
  unfolding Without
  without {x} (Memᴰ.head {x = y} {xs = ys} e) = (ys, refl, λ z m. first z (Memᴰ.cases_cons m))
    where
      first : (z : A) → (z ≡ y) ⊎ (z ∈ ys) → (z ≡ x) ⊎ (z ∈ ys)
      first z (inl p) = inl (p ∙ sym e)
      first z (inr m) = inr m
  without {x} (Memᴰ.tail {x = y} {xs = ys} m) = later (without m)
    where
      later : Without x ys → Without x (y ∷ ys)
      later r = (y ∷ r.0, ap suc r.1, λ z m'. split z (Memᴰ.cases_cons m'))
        where
          deeper : (z : A) → (z ≡ x) ⊎ (z ∈ r.0) → (z ≡ x) ⊎ (z ∈ y ∷ r.0)
          deeper z (inl p) = inl p
          deeper z (inr k) = inr (Memᴰ.tail k)

          split : (z : A) → (z ≡ y) ⊎ (z ∈ ys) → (z ≡ x) ⊎ (z ∈ y ∷ r.0)
          split z (inl p) = inr (Memᴰ.head p)
          split z (inr k) = deeper z (r.2 z k)

  pub distinct_length_le : {xs : List A} → Distinct xs → (ys : List A) → ((x : A) → x ∈ xs → x ∈ ys) → length xs ≤ length ys
  unfolding Without
  distinct_length_le distinct_nil ys sub = omega arith
  distinct_length_le (distinct_cons {x} {xs} fresh d) ys sub = shorter (without (sub x (Memᴰ.head refl))) (distinct_length_le d)
    where
      shorter : Without x ys → ((zs : List A) → ((y : A) → y ∈ xs → y ∈ zs) → length xs ≤ length zs) → suc (length xs) ≤ length ys
      shorter r ih = omega (arith, ih r.0 (λ y m. other y m (r.2 y (sub y (Memᴰ.tail m)))), r.1)
        where
          other : (y : A) → y ∈ xs → (y ≡ x) ⊎ (y ∈ r.0) → y ∈ r.0
          other y m (inl e) = absurd (fresh (Memᴰ.cast (sym e) m))
          other y m (inr k) = k
