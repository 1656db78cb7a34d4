-- The same search under other names: where `named` is one to one on what is met, and steps go by it, what is listed is what was listed, renamed.
-- Assumes nothing.
use Prim.Native.Nat.{ℕ, zero, suc, ◌<◌, zero-le, suc-le-suc}
use mathlib.Core.Path.{◌≡◌, refl, sym, ap, ap₂, ◌∙◌}
use mathlib.Core.Bool.{Bool, true, false, cond, ◌||◌}
use mathlib.Core.List.{List, [], ◌∷◌, ◌++◌, map, flat_map, map-append}
use lib.Dec.{eqb, ltb}
use lib.ListN.{length, get_or, length-map}
use Rattle.basics.specs.Lists.{tabulate}
use Rattle.basics.specs.Reach.{Listing, closed, over, is_in, index_in, add_new, add_all, explore, reachable}

-- every entry has the property
abbrev pub Each : {A : Type 0} → (A → Type 0) → List A → Type 0
Each P [] = Unit {0}
Each P (x ∷ xs) = P x × Each P xs

module _ {A : Type 0} (P : A → Type 0) where
  each_snoc : (xs : List A) (x : A) → Each P xs → P x → Each P (xs ++ (x ∷ []))
  each_snoc [] x e p = (p, tt)
  each_snoc (y ∷ ys) x e p = (e.0, each_snoc ys x e.1 p)

  each_get_d : (xs : List A) (i : ℕ) (d : A) → Each P xs → P d → P (get_or xs i d)
  each_get_d [] i d e p = p
  each_get_d (x ∷ xs) zero d e p = e.0
  each_get_d (x ∷ xs) (suc i) d e p = each_get_d xs i d e.1 p

  pub each_tabulate : (n : ℕ) (g : ℕ → A) → ((i : ℕ) → i < n → P (g i)) → Each P (tabulate n g)
  each_tabulate zero g f = tt
  each_tabulate (suc n) g f = (f 0 (suc-le-suc zero-le), each_tabulate n (λ i. g (suc i)) (λ i h. f (suc i) (suc-le-suc h)))

abbrev pub EachListed : {A : Type 0} → (A → Type 0) → Listing A → Type 0
EachListed P (closed xs) = Each P xs
EachListed P over = Unit {0}

-- a listing, renamed
abbrev pub map_listing : {A B : Type 0} → (A → B) → Listing A → Listing B
map_listing f (closed xs) = closed (map f xs)
map_listing f over = over

map_get_d : {A B : Type 0} (f : A → B) (l : List A) (i : ℕ) (d : A) → get_or (map f l) i (f d) ≡ f (get_or l i d)
map_get_d f [] i d = refl
map_get_d f (x ∷ xs) zero d = refl
map_get_d f (x ∷ xs) (suc i) d = map_get_d f xs i d

module _ {A B : Type 0} (same_a : A → A → Bool) (same_b : B → B → Bool) (named : A → B) (P : A → Type 0)
    (one : (x y : A) → P x → P y → same_b (named x) (named y) ≡ same_a x y) where
  is_in_image : (x : A) (xs : List A) → P x → Each P xs → is_in same_b (named x) (map named xs) ≡ is_in same_a x xs
  unfolding is_in
  is_in_image x [] p e = refl
  is_in_image x (y ∷ ys) p e = ap₂ ◌||◌ (one x y p e.0) (is_in_image x ys p e.1)

  pub index_image : (x : A) (xs : List A) → P x → Each P xs → index_in same_b (named x) (map named xs) ≡ index_in same_a x xs
  unfolding index_in
  index_image x [] p e = refl
  index_image x (y ∷ ys) p e = ap₂ (λ b n. cond b 0 (suc n)) (one x y p e.0) (index_image x ys p e.1)

  add_new_image : (xs : List A) (x : A) → P x → Each P xs
      → (add_new same_b (map named xs) (named x) ≡ map named (add_new same_a xs x)) × Each P (add_new same_a xs x)
  unfolding add_new
  add_new_image xs x p e =
      let (q, r) = at (is_in same_a x xs) in
      (ap (λ b. cond b (map named xs) (map named xs ++ (named x ∷ []))) (is_in_image x xs p e) ∙ q, r)
    where
      at : (b : Bool) → (cond b (map named xs) (map named xs ++ (named x ∷ [])) ≡ map named (cond b xs (xs ++ (x ∷ []))))
          × Each P (cond b xs (xs ++ (x ∷ [])))
      at true = (refl, e)
      at false = (sym (map-append named xs (x ∷ [])), each_snoc P xs x e p)

  add_all_image : (ys xs : List A) → Each P ys → Each P xs
      → (add_all same_b (map named xs) (map named ys) ≡ map named (add_all same_a xs ys)) × Each P (add_all same_a xs ys)
  unfolding add_all
  add_all_image [] xs f e = (refl, e)
  add_all_image (y ∷ ys) xs f e =
      let (q, r) = add_new_image xs y f.0 e in
      let (q', r') = add_all_image ys (add_new same_a xs y) f.1 r in
      (ap (λ l. add_all same_b l (map named ys)) q ∙ q', r')

  module _ (steps_a : A → List A) (steps_b : B → List B) (first : A) (p_first : P first) (stays : (x : A) → P x → Each P (steps_a x))
      (agree : (x : A) → P x → steps_b (named x) ≡ map named (steps_a x)) (limit : ℕ) where
    abbrev more : List A → ℕ → List A
    more seen i = add_all same_a seen (steps_a (get_or seen i first))

    more_image : (seen : List A) (i : ℕ) → Each P seen
        → (add_all same_b (map named seen) (steps_b (get_or (map named seen) i (named first))) ≡ map named (more seen i)) × Each P (more seen i)
    more_image seen i e =
        let x : A = get_or seen i first in
        let p : P x = each_get_d P seen i first e p_first in
        let (q, r) = add_all_image (steps_a x) seen (stays x p) e in
        (ap (add_all same_b (map named seen)) (ap steps_b (map_get_d named seen i first) ∙ agree x p) ∙ q, r)

    explore_image : (fuel : ℕ) (seen : List A) (i : ℕ) → Each P seen
        → (explore same_b steps_b (named first) limit fuel (map named seen) i ≡ map_listing named (explore same_a steps_a first limit fuel seen i))
        × EachListed P (explore same_a steps_a first limit fuel seen i)
    unfolding explore
    explore_image zero seen i e = (refl, tt)
    explore_image (suc fuel) seen i e =
        let (q, r) = more_image seen i e in
        let (q', r') = explore_image fuel (more seen i) (suc i) r in
        let (q'', r'') = at (ltb limit (length seen)) (eqb i (length seen)) (explore same_a steps_a first limit fuel (more seen i) (suc i)) r' in (
          ap₂ (λ n l. cond (ltb limit n) over (cond (eqb i n) (closed (map named seen)) l)) (length-map seen named)
              (ap (λ l. explore same_b steps_b (named first) limit fuel l (suc i)) q ∙ q') ∙ q'',
          r'',
        )
      where
        at : (b c : Bool) (rest : Listing A) → EachListed P rest
            → (cond b over (cond c (closed (map named seen)) (map_listing named rest)) ≡ map_listing named (cond b over (cond c (closed seen) rest)))
            × EachListed P (cond b over (cond c (closed seen) rest))
        at true c rest r = (refl, tt)
        at false true rest r = (refl, e)
        at false false rest r = (refl, r)

    pub reachable_image : (reachable same_b steps_b (named first) limit ≡ map_listing named (reachable same_a steps_a first limit))
        × EachListed P (reachable same_a steps_a first limit)
    unfolding reachable
    reachable_image = explore_image (suc limit) (first ∷ []) 0 (p_first, tt)

-- lists of what is listed
pub flat_image : {A B C : Type 0} (named : A → B) (P : A → Type 0) (g : A → List C) (h : B → List C) → ((x : A) → P x → g x ≡ h (named x))
    → (xs : List A) → Each P xs → flat_map g xs ≡ flat_map h (map named xs)
unfolding flat_map
flat_image named P g h e [] each = refl
flat_image named P g h e (x ∷ xs) each = ap₂ ◌++◌ (e x each.0) (flat_image named P g h e xs each.1)
