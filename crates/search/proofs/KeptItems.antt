-- The items that the memory keeps while a search runs, of any length and packed in any way.
-- Assumes nothing.
use Rattle.std.specs.Prelude.{None, Some}
use Prim.Native.Nat.{ℕ, ◌+◌, ◌*◌, ◌/◌, ◌%◌, ◌≤◌, ◌<◌}
use native.Mathlib.Nat.{div-add-mod'}
use native.Mathlib.Omega.{arith}
use mathlib.Core.Path.{◌≡◌, refl, sym, ap, ◌∙◌, subst}
use mathlib.Core.Bool.{Bool, true, false, cond}
use mathlib.Core.List.{List, [], ◌∷◌, flat_map}
use lib.Dec.{ltb}
use lib.ListN.{length, get_or, take}
use lib.Seq.{ext_get_or, length-take-le, get_or-take}
use borrow.Author.Tests.{ltb-true, ltb-false}
use borrow.Rule.Slice.PartMut.{put_mid}
use Rattle.search.specs.Slots.{items_in, HoldsItems, count_up_to}
use Rattle.basics.proofs.EqualRows.{row_ends, row_at, length_rows, get_d_rows}
use Rattle.basics.proofs.LentPart.{mid_in}
use Rattle.search.proofs.SlotsLaws.{length_items_in, get_d_items_in, Packing, items_more, holds_more}

module _ (w len : ℕ) (pack : List Bool → List ℕ) (packing : Packing w len pack) (mem : List ℕ) (n : ℕ) where
  -- what holds items begins with their bytes
  pub holds_bytes : n * w ≤ length mem → HoldsItems w len pack mem n → take (n * w) mem ≡ flat_map pack (items_in w len mem n)
  holds_bytes room h = ext_get_or 0 _ _ (cut ∙ sym whole) (λ y l. entry y (subst (λ m. y < m) cut l))
    where
      cut : length (take (n * w) mem) ≡ n * w
      cut = length-take-le (n * w) mem room

      whole : length (flat_map pack (items_in w len mem n)) ≡ n * w
      whole = length_rows w pack packing.size (items_in w len mem n) ∙ ap (λ m. m * w) (length_items_in w len mem n)

      cell : (i b : ℕ) → i < n → b < w → get_or (take (n * w) mem) (i * w + b) 0 ≡ get_or (flat_map pack (items_in w len mem n)) (i * w + b) 0
      cell i b l m =
          get_or-take (n * w) mem (i * w + b) 0 (omega (arith, row_ends w n i l)) ∙ h.slot i b l m
          ∙ sym (get_d_rows w pack packing.size (items_in w len mem n) [] i b (subst (λ k. i < k) (sym (length_items_in w len mem n)) l) m
          ∙ ap (λ s. get_or (pack s) b 0) (get_d_items_in w len mem n i [] l))

      entry : (y : ℕ) → y < n * w → get_or (take (n * w) mem) y 0 ≡ get_or (flat_map pack (items_in w len mem n)) y 0
      entry y l =
          subst (λ k. get_or (take (n * w) mem) k 0 ≡ get_or (flat_map pack (items_in w len mem n)) k 0) (div-add-mod' y w)
          (cell (y / w) (y % w) (row_at w n y l).0 (row_at w n y l).1)

-- ---- the first item

module _ (w len : ℕ) (pack : List Bool → List ℕ) (packing : Packing w len pack) (first : List Bool) (long : length first ≡ len)
    (k : ℕ) (mem bytes : List ℕ) (is : bytes ≡ pack first) (size : k ≡ w) (room : w ≤ length mem) where
  begun : (b : ℕ) → b < w → get_or (put_mid 0 k mem bytes) (0 * w + b) 0 ≡ get_or (pack first) b 0
  begun b h =
      let z : 0 * w + b ≡ 0 + b = omega arith in
      ap (λ y. get_or (put_mid 0 k mem bytes) y 0) z ∙ mid_in mem 0 k bytes (omega arith)
      (ap length is ∙ packing.size first ∙ sym size) b (omega arith) ∙ ap (λ l. get_or l b 0) is

  none : HoldsItems w len pack mem 0
  none = record { slot = λ i b h. absurd (omega arith) }

  nothing : (y : ℕ) → y < 0 * w → get_or (put_mid 0 k mem bytes) y 0 ≡ get_or mem y 0
  nothing y h = absurd (omega arith)

  pub first_items : items_in w len (put_mid 0 k mem bytes) 1 ≡ first ∷ []
  unfolding items_in
  first_items = items_more w len pack packing mem (put_mid 0 k mem bytes) 0 none nothing first long begun

  pub first_holds : HoldsItems w len pack (put_mid 0 k mem bytes) 1
  first_holds = holds_more w len pack packing mem (put_mid 0 k mem bytes) 0 none nothing first long begun

-- ---- how many there are

module _ {K : Type 0} (limit : ℕ) (xs : List K) where
  -- from the answer back to the count
  pub count_found : (m : ℕ) → Some m ≡ count_up_to limit xs → (length xs ≤ limit) × (m ≡ length xs)
  count_found m q = at (ltb limit (length xs)) refl q
    where
      at : (b : Bool) → ltb limit (length xs) ≡ b → Some m ≡ cond b None (Some (length xs)) → (length xs ≤ limit) × (m ≡ length xs)
      at true e q = let z : ◌≡◌ {A = ℕ} 0 1 = cc in absurd (omega arith)
      at false e q = (ltb-false limit (length xs) e, cc)

  pub count_many : None ≡ count_up_to limit xs → limit < length xs
  count_many q = at (ltb limit (length xs)) refl q
    where
      at : (b : Bool) → ltb limit (length xs) ≡ b → None ≡ cond b None (Some (length xs)) → limit < length xs
      at true e q = ltb-true limit (length xs) e
      at false e q = let z : ◌≡◌ {A = ℕ} 0 1 = cc in absurd (omega arith)
