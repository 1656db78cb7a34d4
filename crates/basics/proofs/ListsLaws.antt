-- Lists as tables.
-- Assumes nothing.
use Prim.Native.Nat.{ℕ, zero, suc, ◌+◌, ◌<◌, ◌-◌, ◌≤◌}
use native.Mathlib.Nat.{not-suc-le-zero, le_of_suc-le-suc, zero-add}
use mathlib.Core.Path.{◌≡◌, refl, sym, ap, ◌∙◌, ap₂, subst}
use mathlib.Core.List.Memᴰ
use mathlib.Core.List.{List, [], ◌∷◌, ◌++◌, map, append-nil}
use lib.ListN.{length, get_or, take, drop, replicate, length-map, length-replicate, get_or-append, length-append, length-drop, drop_of_length-le}
use lib.Seq.{get_or-append-add, get_or-drop, drop-append_seam, take_at}
use Rattle.basics.specs.Lists.{tabulate, below, padded, written}
use native.Mathlib.Omega.{arith}
use Rattle.basics.specs.Member.{◌∈◌}

pub length_tabulate {ℓ} : {A : Type ℓ} (n : ℕ) (f : ℕ → A) → length (tabulate n f) ≡ n
length_tabulate zero f = refl
length_tabulate (suc n) f = ap suc (length_tabulate n (λ k. f (suc k)))

pub get_d_tabulate {ℓ} : {A : Type ℓ} (n : ℕ) (f : ℕ → A) (i : ℕ) (d : A) → i < n → get_or (tabulate n f) i d ≡ f i
get_d_tabulate zero f i d h = absurd (not-suc-le-zero h)
get_d_tabulate (suc n) f zero d h = refl
get_d_tabulate (suc n) f (suc i) d h = get_d_tabulate n (λ k. f (suc k)) i d (le_of_suc-le-suc h)

-- ---- tables

-- a table grows at its end
pub tabulate_suc {ℓ} : {A : Type ℓ} (n : ℕ) (f : ℕ → A) → tabulate (suc n) f ≡ tabulate n f ++ (f n ∷ [])
tabulate_suc zero f = refl
tabulate_suc (suc n) f = ap (λ l. f 0 ∷ l) (tabulate_suc n (λ k. f (suc k)))

-- tables with equal entries are equal
pub tabulate_ext {ℓ} : {A : Type ℓ} (n : ℕ) (f g : ℕ → A) → ((i : ℕ) → i < n → f i ≡ g i) → tabulate n f ≡ tabulate n g
tabulate_ext zero f g e = refl
tabulate_ext (suc n) f g e =
    ap₂ (λ x xs. x ∷ xs) (e 0 (omega arith)) (tabulate_ext n (λ k. f (suc k)) (λ k. g (suc k)) (λ i h. e (suc i) (omega arith)))

-- a table behind another is the other, continued
pub tabulate_append : (m n : ℕ) (f g : ℕ → ℕ) → ((k : ℕ) → k < n → g k ≡ f (m + k)) → tabulate m f ++ tabulate n g ≡ tabulate (m + n) f
tabulate_append zero n f g e =
    tabulate_ext n g f (λ k h. e k h ∙ ap f (zero-add k)) ∙ ap (λ x. tabulate x f) (sym (zero-add n))
tabulate_append (suc m) n f g e =
    let more : suc (m + n) ≡ suc m + n = omega arith in
    ap (λ l. f 0 ∷ l) (tabulate_append m n (λ k. f (suc k)) g (λ k h. e k h ∙ ap f (omega arith))) ∙ ap (λ x. tabulate x f) more

-- a table written over the front of another
pub table_over : (n m : ℕ) (f g h : ℕ → ℕ) → n ≤ m → ((i : ℕ) → i < n → f i ≡ h i) → ((i : ℕ) → n ≤ i → g i ≡ h i)
    → tabulate n f ++ drop n (tabulate m g) ≡ tabulate m h
table_over zero m f g h l e d = tabulate_ext m g h (λ i b. d i (omega arith))
table_over (suc n) zero f g h l e d = absurd (omega arith)
table_over (suc n) (suc m) f g h l e d =
    ap₂ (λ x xs. x ∷ xs) (e 0 (omega arith))
    (table_over n m (λ k. f (suc k)) (λ k. g (suc k)) (λ k. h (suc k)) (omega arith) (λ i b. e (suc i) (omega arith)) (λ i b. d (suc i) (omega arith)))

-- a table of zeros
pub table_zeros : (n : ℕ) → tabulate {A = ℕ} n (λ i. 0) ≡ replicate n 0
table_zeros zero = refl
table_zeros (suc n) = ap (λ l. 0 ∷ l) (table_zeros n)

-- a table with other entries behind it
pub get_d_table : (f : ℕ → ℕ) (n i : ℕ) (r : List ℕ) → i < n → get_or (tabulate n f ++ r) i 0 ≡ f i
get_d_table f n i r h =
    get_or-append (tabulate n f) r 0 i (subst (λ k. i < k) (sym (length_tabulate n f)) h) ∙ get_d_tabulate n f i 0 h

-- behind what is written every entry is as it was
pub written_behind : (front l : List ℕ) (i : ℕ) → length front ≤ i → get_or (written front l) i 0 ≡ get_or l i 0
written_behind front l i h =
    let e : i ≡ length front + (i - length front) = omega arith in
    ap (λ k. get_or (written front l) k 0) e ∙ get_or-append-add front (drop (length front) l) (i - length front) 0
    ∙ get_or-drop (length front) l (i - length front) 0 ∙ ap (λ k. get_or l k 0) (sym e)

-- so what a table was written over
pub get_d_behind : (f : ℕ → ℕ) (n i : ℕ) (l : List ℕ) → n ≤ i → get_or (tabulate n f ++ drop n l) i 0 ≡ get_or l i 0
get_d_behind f n i l h =
    let e = length_tabulate n f in
    ap (λ m. get_or (tabulate n f ++ drop m l) i 0) (sym e) ∙ written_behind (tabulate n f) l i (subst (λ m. m ≤ i) (sym e) h)

-- the first n entries of a list as a table
pub table_take : (n : ℕ) (l : List ℕ) → n ≤ length l → tabulate n (λ i. get_or l i 0) ≡ take n l
table_take zero l h = refl
table_take (suc n) [] h = absurd (not-suc-le-zero h)
table_take (suc n) (x ∷ l) h = ap (λ t. x ∷ t) (table_take n l (le_of_suc-le-suc h))

-- ---- maps

pub get_d_map_in : {A B : Type 0} (f : A → B) (l : List A) (i : ℕ) (d : A) (e : B) → i < length l → get_or (map f l) i e ≡ f (get_or l i d)
get_d_map_in f [] i d e h = absurd (not-suc-le-zero h)
get_d_map_in f (x ∷ l) zero d e h = refl
get_d_map_in f (x ∷ l) (suc i) d e h = get_d_map_in f l i d e (le_of_suc-le-suc h)

pub map_ext_in : {A B : Type 0} (f g : A → B) (l : List A) → ((x : A) → x ∈ l → f x ≡ g x) → map f l ≡ map g l
map_ext_in f g [] e = refl
map_ext_in f g (x ∷ l) e = ap₂ (λ y ys. y ∷ ys) (e x (Memᴰ.head refl)) (map_ext_in f g l (λ y m. e y (Memᴰ.tail m)))

pub map_table : {A B : Type 0} (f : A → B) (n : ℕ) (g : ℕ → A) → map f (tabulate n g) ≡ tabulate n (λ i. f (g i))
map_table f zero g = refl
map_table f (suc n) g = ap (λ t. f (g 0) ∷ t) (map_table f n (λ i. g (suc i)))

pub length_map_below : {B : Type 0} (n : ℕ) (f : ℕ → B) → length (map f (below n)) ≡ n
length_map_below n f = length-map (below n) f ∙ length_tabulate n (λ k. k)

pub get_d_map_below : {B : Type 0} (n : ℕ) (f : ℕ → B) (b : ℕ) (e : B) → b < n → get_or (map f (below n)) b e ≡ f b
get_d_map_below n f b e h = ap (λ l. get_or l b e) (map_table f n (λ k. k)) ∙ get_d_tabulate n f b e h

-- ---- zeros

pub zeros_length : (w : List ℕ) (n : ℕ) → w ≡ replicate n 0 → length w ≡ n
zeros_length w n e = ap length e ∙ length-replicate n 0

pub take_zeros : (k m : ℕ) → k ≤ m → take k (replicate m 0) ≡ replicate {A = ℕ} k 0
take_zeros zero m h = refl
take_zeros (suc k) zero h = absurd (omega arith)
take_zeros (suc k) (suc m) h = ap (λ l. 0 ∷ l) (take_zeros k m (le_of_suc-le-suc h))

pub get_d_zeros : (n i : ℕ) → get_or {A = ℕ} (replicate n 0) i 0 ≡ 0
get_d_zeros zero i = refl
get_d_zeros (suc n) zero = refl
get_d_zeros (suc n) (suc i) = get_d_zeros n i

pub padded_length : (n : ℕ) (l : List ℕ) → length l ≤ n → length (padded n l) ≡ n
padded_length n l h = length-append l _ ∙ ap (λ m. length l + m) (length-replicate (n - length l) 0) ∙ omega arith

-- behind a list there are only zeros
pub past_end : (n : ℕ) (l : List ℕ) (i : ℕ) → length l ≤ i → get_or (padded n l) i 0 ≡ 0
past_end n l i h =
    let e : i ≡ length l + (i - length l) = omega arith in
    ap (λ y. get_or (padded n l) y 0) e ∙ get_or-append-add l _ (i - length l) 0 ∙ get_d_zeros (n - length l) (i - length l)

-- what is written over a list is as long as the list
pub written_length : {A : Type 0} (front l : List A) → length front ≤ length l → length (written front l) ≡ length l
written_length front l h =
    length-append front (drop (length front) l) ∙ ap (λ m. length front + m) (length-drop (length front) l) ∙ omega arith

-- and is all of it, if it is as long
pub written_whole : {A : Type 0} (front l : List A) → length front ≡ length l → written front l ≡ front
written_whole front l e = ap (λ t. front ++ t) (drop_of_length-le l {i = length front} (omega arith)) ∙ append-nil front

-- behind what is written all is as it was
pub written_rest : {A : Type 0} (front l : List A) (n : ℕ) → length front ≡ n → drop n (written front l) ≡ drop n l
written_rest front l n e = subst (λ k. drop k (written front l) ≡ drop k l) e (drop-append_seam front (drop (length front) l))

-- and what is written stands at the front
module _ (front l after : List ℕ) (n : ℕ) (long : n ≡ length front) (is : after ≡ written front l) where
  pub front_in : n ≤ length after
  front_in = omega (arith, ap length is, length-append front (drop (length front) l))

  pub front_taken : take n after ≡ front
  front_taken = ap₂ take long is ∙ take_at front (drop (length front) l) (length front) refl

  pub taken_length : n ≡ length (take n after)
  taken_length = long ∙ sym (ap length front_taken)
