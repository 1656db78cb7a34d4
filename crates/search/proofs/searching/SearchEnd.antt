-- What a search leaves in memory when it ends, for items of any length and packed in any way.
-- Assumes nothing.
use Rattle.std.specs.Prelude.{None, Some}
use Prim.Native.Nat.{ℕ, ◌-◌, ◌*◌, ◌≤◌}
use native.Mathlib.Omega.{arith}
use mathlib.Core.Path.{◌≡◌, refl, sym, ap, ap₂, ◌∙◌}
use mathlib.Core.Bool.{Bool}
use mathlib.Core.List.{List, ◌++◌, append-nil}
use lib.ListN.{length, replicate, take, drop, length-drop, drop_of_length-le}
use lib.Seq.{take_all, length-take-le}
use borrow.Rule.Slice.PartMut.{put_mid}
use Rattle.basics.specs.Lists.{padded}
use Rattle.basics.specs.Reach.{Listing, closed, over}
use Rattle.search.specs.ReachableSets.{same_set, reachable_sets}
use Rattle.basics.specs.Successors.{rows_over}
use Rattle.search.specs.Slots.{explored_of, items_of, RanItems}
use Rattle.search.proofs.ReachableSetsLaws.{sets_closed}

-- no more are answered than there may be
pub listed_few : {K : Type 0} (l : Listing K) (limit n : ℕ) → ((xs : List K) → l ≡ closed xs → length xs ≤ limit) → Some n ≡ explored_of l → n ≤ limit
listed_few (closed xs) limit n few q = let z : n ≡ length xs = cc in omega (arith, few xs refl)
listed_few over limit n few q = let z : ◌≡◌ {A = ℕ} 0 1 = cc in absurd (omega arith)

pub answer_few : (d : ℕ) (back : ℕ → ℕ → ℕ) (letters : List ℕ) (limit n : ℕ) → Some n ≡ explored_of (reachable_sets d back letters limit) → n ≤ limit
answer_few d back letters limit n q = listed_few (reachable_sets d back letters limit) limit n (λ xs e. (sets_closed d back letters limit xs e).1) q

module _ (w : ℕ) (pack : List Bool → List ℕ) (f : List Bool → ℕ → List Bool) (steps : List Bool → List ℕ) (width : ℕ) (l : Listing (List Bool))
    (mem rows : List ℕ) (ran : RanItems w pack f steps width l mem rows) where
  -- behind the items all is cleared
  pub end_items : (n k m : ℕ) (rest : List ℕ) → Some n ≡ explored_of l → n * w ≤ length mem → k ≡ length mem - n * w
      → rest ≡ replicate (length (take k (drop (n * w) mem))) 0 → m ≡ length mem → put_mid (n * w) k mem rest ≡ padded m (items_of pack l)
  end_items n k m rest q room is-k zeros is_m = at l ran q
    where
      tail : length (drop (n * w) mem) ≡ length mem - n * w
      tail = length-drop (n * w) mem

      cleared : rest ≡ replicate (length mem - n * w) 0
      cleared = zeros ∙ ap (λ j. replicate j 0) (ap length (take_all k (drop (n * w) mem) (omega (arith, tail))) ∙ tail)

      whole : put_mid (n * w) k mem rest ≡ take (n * w) mem ++ replicate (length mem - n * w) 0
      whole =
          ap (λ t. take (n * w) mem ++ t)
          (ap (λ t. rest ++ t) (drop_of_length-le (drop (n * w) mem) {i = k} (omega (arith, tail))) ∙ append-nil rest ∙ cleared)

      at : (l : Listing (List Bool)) → RanItems w pack f steps width l mem rows → Some n ≡ explored_of l → put_mid (n * w) k mem rest ≡ padded m
          (items_of pack l)
      at (closed xs) r p =
          let z : n ≡ length xs = cc in
          let front : take (n * w) mem ≡ items_of pack (closed xs) = ap (λ j. take (j * w) mem) z ∙ r.0 in
          let size : n * w ≡ length (items_of pack (closed xs)) = sym (length-take-le (n * w) mem room) ∙ ap length front in
          let rest_size : length mem - n * w ≡ m - length (items_of pack (closed xs)) = omega arith in
          whole ∙ ap₂ (λ x j. x ++ replicate j 0) front rest_size
      at over r p = let z : ◌≡◌ {A = ℕ} 0 1 = cc in absurd (omega arith)

  pub end_rows : (n m : ℕ) → Some n ≡ explored_of l → m ≡ length rows → rows ≡ padded m (rows_over same_set f steps width l)
  end_rows n m q is_m = at l ran q
    where
      at : (l : Listing (List Bool)) → RanItems w pack f steps width l mem rows → Some n ≡ explored_of l
          → rows ≡ padded m (rows_over same_set f steps width l)
      at (closed xs) r p = r.1 ∙ ap (λ j. padded j (rows_over same_set f steps width (closed xs))) (sym is_m)
      at over r p = let z : ◌≡◌ {A = ℕ} 0 1 = cc in absurd (omega arith)

-- too many leave nothing
pub end_many : (pack : List Bool → List ℕ) (f : List Bool → ℕ → List Bool) (steps : List Bool → List ℕ) (width : ℕ) (l : Listing (List Bool))
    → None ≡ explored_of l → (m n : ℕ) (mem : List ℕ) → mem ≡ replicate n 0 → n ≡ m
    → (mem ≡ padded m (items_of pack l)) × (mem ≡ padded m (rows_over same_set f steps width l))
end_many pack f steps width (closed xs) q m n mem z e = let f : ◌≡◌ {A = ℕ} 0 1 = cc in absurd (omega arith)
end_many pack f steps width over q m n mem z e =
    let s : n ≡ m - 0 = omega arith in
    let c : mem ≡ replicate (m - 0) 0 = z ∙ ap (λ j. replicate j 0) s in
    (c, c)
