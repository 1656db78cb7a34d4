-- Taking the steps from one item, one after another: what they lead to is added to the items in memory, and the place of each is
-- noted in a row. Items are of any length and packed in any way, and the steps are any.
-- Assumes nothing.
use Rattle.std.specs.Prelude.{None, Option, Some}
use Prim.Native.Nat.{ℕ, ◌+◌, ◌*◌, ◌≤◌, ◌<◌}
use native.Mathlib.Omega.{arith}
use mathlib.Core.Path.{◌≡◌, refl, sym, ap, ◌∙◌, subst}
use mathlib.Core.Logic.{◌⊎◌, inl, inr}
use mathlib.Core.Bool.{Bool, true, false}
use mathlib.Core.List.{List, [], ◌∷◌, ◌++◌}
use lib.ListN.{length, get_or, set, length-append, length-set}
use lib.Seq.{get_or-set_same, get_or-set_other, ext_get_or}
use borrow.Author.Tests.{lt-ltb, le-ltb}
use Rattle.basics.specs.Bounded.{first_that}
use Rattle.basics.specs.Lists.{below}
use Rattle.basics.specs.Reach.{is_in, index_in, add_new}
use Rattle.search.specs.ReachableSets.{same_set}
use Rattle.basics.specs.Successors.{grown_over, row_over}
use Rattle.search.specs.Slots.{items_in, HoldsItems, with_item, same_slot, count_up_to, ExpandedItems}
use Rattle.basics.proofs.ListsLaws.{length_map_below, get_d_map_below}
use Rattle.basics.proofs.BoundedLaws.{first_le, last_or_before}
use Rattle.basics.proofs.GrowingList.{index_last, index_added, add_old, add_new_lem, all_none, all_more, all_longer}
use Rattle.search.proofs.ReachableSetsLaws.{same_set_says}
use Rattle.search.proofs.SlotsLaws

-- step a leads from item s to f s a; the items xs are there before
module _ (w len : ℕ) (pack : List Bool → List ℕ) (f : List Bool → ℕ → List Bool) (s : List Bool) (xs : List (List Bool)) where
  -- the items after the first a steps
  abbrev grown_to : ℕ → List (List Bool)
  grown_to a = grown_over same_set f (below a) xs s

  to_more : (a : ℕ) → grown_to (a + 1) ≡ add_new same_set (grown_to a) (f s a)
  unfolding grown_over
  to_more a = all_more same_set (f s) xs a

  -- after the first a steps there are m items in memory, and the row has the place of each
  pub record Reading (a m : ℕ) (mem row : List ℕ) : Type 0 where
    pub items : items_in w len mem m ≡ grown_to a
    pub holds : HoldsItems w len pack mem m
    pub entry : (b : ℕ) → b < a → get_or row b 0 ≡ index_in same_set (f s b) (grown_to a)
    pub there : (b : ℕ) → b < a → is_in same_set (f s b) (grown_to a) ≡ true

  pub reading_none : (n : ℕ) (mem row : List ℕ) → items_in w len mem n ≡ xs → HoldsItems w len pack mem n → Reading 0 n mem row
  unfolding grown_over
  reading_none n mem row e g =
      record { items = e ∙ sym (all_none same_set (f s) xs); holds = g; entry = λ b h. absurd (omega arith); there = λ b h. absurd (omega arith) }

  reading_count : (a m : ℕ) (mem row : List ℕ) → Reading a m mem row → length (grown_to a) ≡ m
  reading_count a m mem row r = ap length (sym r.items) ∙ SlotsLaws.length_items_in w len mem m

  -- one more
  reading_more : (a m m' : ℕ) (mem new row : List ℕ) (y : ℕ) → a < length row → Reading a m mem row
      → items_in w len new m' ≡ grown_to (a + 1) → HoldsItems w len pack new m'
      → (index_in same_set (f s a) (grown_to (a + 1)) ≡ y) × (is_in same_set (f s a) (grown_to (a + 1)) ≡ true) → Reading (a + 1) m' new (set row a y)
  reading_more a m m' mem new row y l r e k q =
      record {
        items = e;
        holds = k;
        entry = λ b h. entry b (last_or_before a b h);
        there = λ b h. there b (last_or_before a b h);
      }
    where
      kept : (b : ℕ) → b < a → (index_in same_set (f s b) (grown_to (a + 1)) ≡ index_in same_set (f s b) (grown_to a)) ×
          (is_in same_set (f s b) (grown_to (a + 1)) ≡ true)
      kept b h = rw to_more (index_added same_set (f s b) (grown_to a) (f s a) (r.there b h))

      entry : (b : ℕ) → (b ≡ a) ⊎ (b < a) → get_or (set row a y) b 0 ≡ index_in same_set (f s b) (grown_to (a + 1))
      entry b (inl p) = rw p (get_or-set_same row a y 0 l ∙ sym q.0)
      entry b (inr h) = get_or-set_other row a b y 0 (λ p. omega arith) ∙ r.entry b h ∙ sym (kept b h).0

      there : (b : ℕ) → (b ≡ a) ⊎ (b < a) → is_in same_set (f s b) (grown_to (a + 1)) ≡ true
      there b (inl p) = rw p q.1
      there b (inr h) = (kept b h).1

  -- in the end the row has the places of all
  reading_row : (count m : ℕ) (mem row : List ℕ) → Reading count m mem row → length row ≡ count → row ≡ row_over same_set f (below count) (grown_to count) s
  unfolding row_over
  reading_row count m mem row r e =
      ext_get_or 0 row (row_over same_set f (below count) (grown_to count) s) (e ∙ sym (length_map_below count _)) (λ b h. at b (subst (λ k. b < k) e h))
    where
      at : (b : ℕ) → b < count → get_or row b 0 ≡ get_or (row_over same_set f (below count) (grown_to count) s) b 0
      at b h = r.entry b h ∙ sym (get_d_map_below count (λ a. index_in same_set (f s a) (grown_to count)) b 0 h)

  -- ---- what a loop over the steps keeps, and what it answers; the memory has `size` bytes

  abbrev pub Adding : (limit count size a m : ℕ) → List ℕ → List ℕ → Type 0
  Adding limit count size a m mem row = (a ≤ count) × (m ≤ limit) × (length mem ≡ size) × (length row ≡ count) × Reading a m mem row

  abbrev pub Answers : (limit count : ℕ) → Option ℕ → List ℕ → List ℕ → Type 0
  Answers limit count r mem row =
      (r ≡ count_up_to limit (grown_to count)) × ExpandedItems w len pack limit (grown_to count) (row_over same_set f (below count) (grown_to count) s) mem row

  module _ {limit count size a m : ℕ} {mem row : List ℕ} (z : Adding limit count size a m mem row) where
    -- every step has been taken
    pub adding_all : length row ≤ a → Answers limit count (Some m) mem row
    adding_all l =
        let e : a ≡ count = omega (arith, z.0, z.3) in
        let r : Reading count m mem row = rw e at z.4 in
        let many : length (grown_to count) ≡ m = reading_count count m mem row r in (
          sym (rw (many, le-ltb limit m z.1)),
          record {
            items_are = λ l. ap (items_in w len mem) many ∙ r.items;
            holds = λ l. subst (HoldsItems w len pack mem) (sym many) r.holds;
            row_is = λ l. reading_row count m mem row r z.3;
          },
        )

    module _ (l : a < length row) where
      -- one more
      adding_more : (m' : ℕ) (new : List ℕ) (y : ℕ) → m' ≤ limit → length new ≡ size → items_in w len new m' ≡ grown_to (a + 1)
          → HoldsItems w len pack new m' → (index_in same_set (f s a) (grown_to (a + 1)) ≡ y) × (is_in same_set (f s a) (grown_to (a + 1)) ≡ true)
          → Adding limit count size (a + 1) m' new (set row a y)
      adding_more m' new y few long e k q =
          (omega (arith, l, z.3), few, long, length-set row a y ∙ z.3, reading_more a m m' mem new row y l z.4 e k q)

      -- the same item as an earlier step's: its place is copied
      pub adding_copy : (b : ℕ) → b < a → f s b ≡ f s a → Adding limit count size (a + 1) m mem (set row a (get_or row b 0))
      adding_copy b h e =
          let index : index_in same_set (f s a) (grown_to a) ≡ get_or row b 0 = ap (λ x. index_in same_set x (grown_to a)) (sym e) ∙ sym (z.4.entry b h) in
          let there : is_in same_set (f s a) (grown_to a) ≡ true = ap (λ x. is_in same_set x (grown_to a)) (sym e) ∙ z.4.there b h in
          let same : grown_to (a + 1) ≡ grown_to a = to_more a ∙ add_old same_set (grown_to a) (f s a) there in
          adding_more m mem (get_or row b 0) z.1 z.2 (z.4.items ∙ sym same) z.4.holds (rw same (index, there))

      -- the item is written behind the others, and the first place with its bytes is t
      module _ (packing : SlotsLaws.Packing w len pack) (whole : size ≡ (limit + 1) * w) (long : length (f s a) ≡ len) (new : List ℕ) (t : ℕ)
          (written : new ≡ with_item w mem m (pack (f s a))) (first : t ≡ first_that (same_slot w new m) m) where
        room : m * w + w ≤ length mem
        room = SlotsLaws.place_room w limit m (length mem) z.1 (z.2 ∙ whole)

        kept : length new ≡ size
        kept = ap length written ∙ SlotsLaws.with_length w mem (pack (f s a)) m room (packing.size (f s a)) ∙ z.2

        pub front_kept : (k : ℕ) → k < m * w → get_or new k 0 ≡ get_or mem k 0
        front_kept k h = ap (λ v. get_or v k 0) written ∙ SlotsLaws.with_before w mem (pack (f s a)) m room k h

        behind : (b : ℕ) → b < w → get_or new (m * w + b) 0 ≡ get_or (pack (f s a)) b 0
        behind b h = ap (λ v. get_or v (m * w + b) 0) written ∙ SlotsLaws.with_there w mem (pack (f s a)) m room (packing.size (f s a)) b h

        place_le : t ≤ m
        place_le = rw first (first_le (same_slot w new m) m)

        -- it was there before
        pub adding_old : (t ≡ m → ⊥) → Adding limit count size (a + 1) m new (set row a t)
        adding_old ne =
            let old : (index_in same_set (f s a) (items_in w len mem m) ≡ t) × (is_in same_set (f s a) (items_in w len mem m) ≡ true)
            = SlotsLaws.place_old w len pack packing mem new m z.4.holds front_kept (f s a) long behind t first (omega (arith, place_le, ne)) in
            let q : (index_in same_set (f s a) (grown_to a) ≡ t) × (is_in same_set (f s a) (grown_to a) ≡ true) = rw z.4.items at old in
            let same : grown_to (a + 1) ≡ grown_to a = to_more a ∙ add_old same_set (grown_to a) (f s a) q.1 in
            adding_more m new t z.1 kept (SlotsLaws.items_kept w len pack packing mem new m z.4.holds front_kept ∙ z.4.items ∙ sym same)
            (SlotsLaws.holds_kept w len pack packing mem new m z.4.holds front_kept) (rw same q)

        module _ (e : t ≡ m) where
          is_new : is_in same_set (f s a) (grown_to a) ≡ false
          is_new = rw (← z.4.items) (SlotsLaws.place_new w len pack packing mem new m z.4.holds front_kept (f s a) long behind t first e)

          new_items : grown_to (a + 1) ≡ grown_to a ++ (f s a ∷ [])
          new_items = to_more a ∙ add_new_lem same_set (grown_to a) (f s a) is_new

          -- it is new
          pub adding_new : (m ≡ limit → ⊥) → Adding limit count size (a + 1) (m + 1) new (set row a t)
          adding_new ne =
              let q = index_last same_set (f s a) (grown_to a) ((same_set_says (f s a) (f s a)).1 refl) is_new in
              adding_more (m + 1) new t (omega (arith, z.1, ne)) kept
              (SlotsLaws.items_more w len pack packing mem new m z.4.holds front_kept (f s a) long behind
              ∙ ap (λ ys. ys ++ (f s a ∷ [])) z.4.items ∙ sym new_items)
              (SlotsLaws.holds_more w len pack packing mem new m z.4.holds front_kept (f s a) long behind)
              (rw new_items (q.0 ∙ reading_count a m mem row z.4 ∙ sym e, q.1))

          -- it is new, and no place is left for it
          pub adding_over : m ≡ limit → (mem' row' : List ℕ) → Answers limit count None mem' row'
          unfolding grown_over
          adding_over k mem' row' =
              let longer : length (grown_to (a + 1)) ≤ length (grown_to count) = all_longer same_set (f s) xs (a + 1) count (omega (arith, l, z.3)) in
              let one : length (grown_to (a + 1)) ≡ m + 1
              = ap length new_items ∙ length-append (grown_to a) (f s a ∷ []) ∙ ap (λ k. k + 1) (reading_count a m mem row z.4) in
              let over : limit < length (grown_to count) = omega arith in (
                rw (lt-ltb limit (length (grown_to count)) over),
                record { items_are = λ l. absurd (omega arith); holds = λ l. absurd (omega arith); row_is = λ l. absurd (omega arith) },
              )
