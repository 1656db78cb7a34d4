-- Items one after another in memory, of any length and packed in any way: what writing the next one changes, and when it is one
-- of those before.
-- Assumes nothing.
use Prim.Native.Nat.{ℕ, ◌+◌, ◌-◌, ◌*◌, ◌/◌, ◌%◌, ◌≤◌, ◌<◌}
use native.Mathlib.Numerals.{add-one}
use native.Mathlib.Omega.{arith}
use mathlib.Core.Path.{◌≡◌, refl, sym, ap, ◌∙◌, subst, ap₂}
use mathlib.Core.Logic.{◌⊎◌, inl, inr}
use mathlib.Core.Bool.{Bool, true, false}
use mathlib.Core.List.{List, [], ◌∷◌, ◌++◌, append_assoc}
use lib.ListN.{length, get_or, take, drop}
use lib.Seq.{drop-drop, ext_get_or}
use borrow.Rule.Slice.PartMut.{put_mid}
use Rattle.basics.specs.Bits.{bit}
use Rattle.basics.specs.Says.{Says}
use Rattle.basics.proofs.ListsLaws.{length_tabulate, get_d_tabulate, tabulate_suc, tabulate_ext}
use Rattle.basics.specs.Bounded.{agree, first_that}
use Rattle.basics.specs.Reach.{is_in, index_in}
use Rattle.search.specs.ReachableSets.{same_set}
use Rattle.search.specs.Slots.{item_in, items_in, HoldsItems, with_item, same_slot}
use Rattle.basics.proofs.BoundedLaws.{agree_at, first_passes, first_least, agree_all, last_or_before}
use Rattle.basics.proofs.GrowingList.{index_found, index_none}
use Rattle.basics.proofs.EqualRows.{row_ends}
use Rattle.basics.proofs.LentPart.{part_length, part_at, mid_before, mid_in, mid_after, mid_length}
use Rattle.search.proofs.ReachableSetsLaws.{same_set_says}

-- ---- the memory with the bytes of place m written

with_mid : (w : ℕ) (mem bytes : List ℕ) (m : ℕ) → with_item w mem m bytes ≡ put_mid (m * w) w mem bytes
unfolding with_item
with_mid w mem bytes m =
    append_assoc (take (m * w) mem) bytes (drop (m * w + w) mem)
    ∙ ap (λ l. take (m * w) mem ++ (bytes ++ l)) (sym (drop-drop w (m * w) mem))

-- as code puts them back
pub item_back : (w : ℕ) (mem bytes written : List ℕ) (m : ℕ) → written ≡ bytes
    → put_mid (m * w) (m * w + w - m * w) mem written ≡ with_item w mem m bytes
item_back w mem bytes written m e =
    let k : m * w + w - m * w ≡ w = omega arith in
    ap₂ (λ n l. put_mid (m * w) n mem l) k e ∙ sym (with_mid w mem bytes m)

-- in memory with room for `limit` items and one more
pub place_room : (w limit m n : ℕ) → m ≤ limit → n ≡ (limit + 1) * w → m * w + w ≤ n
place_room w limit m n h e = omega (arith, row_ends w (limit + 1) m (omega arith), e)

-- bytes that are made to fill their place
pub item_made : (w limit : ℕ) (mem : List ℕ) (bytes : ℕ → List ℕ) (written : List ℕ) (m : ℕ) → m ≤ limit → length mem ≡ (limit + 1) * w
    → written ≡ bytes (length (take (m * w + w - m * w) (drop (m * w) mem)))
    → put_mid (m * w) (m * w + w - m * w) mem written ≡ with_item w mem m (bytes w)
item_made w limit mem bytes written m h e q =
    item_back w mem (bytes w) written m (q ∙ ap bytes (part_length (m * w) w mem (place_room w limit m (length mem) h e)))

module _ (w : ℕ) (mem bytes : List ℕ) (m : ℕ) (room : m * w + w ≤ length mem) where
  pub with_before : (k : ℕ) → k < m * w → get_or (with_item w mem m bytes) k 0 ≡ get_or mem k 0
  with_before k h = ap (λ l. get_or l k 0) (with_mid w mem bytes m) ∙ mid_before mem (m * w) w bytes room k h

  module _ (size : length bytes ≡ w) where
    pub with_there : (b : ℕ) → b < w → get_or (with_item w mem m bytes) (m * w + b) 0 ≡ get_or bytes b 0
    with_there b h = ap (λ l. get_or l (m * w + b) 0) (with_mid w mem bytes m) ∙ mid_in mem (m * w) w bytes room size b h

    pub with_behind : (k : ℕ) → m * w + w ≤ k → get_or (with_item w mem m bytes) k 0 ≡ get_or mem k 0
    with_behind k h = ap (λ l. get_or l k 0) (with_mid w mem bytes m) ∙ mid_after mem (m * w) w bytes room size k h

    pub with_length : length (with_item w mem m bytes) ≡ length mem
    with_length = ap length (with_mid w mem bytes m) ∙ mid_length mem (m * w) w bytes room size

-- ---- items in memory

pub length_item_in : (w len : ℕ) (mem : List ℕ) (i : ℕ) → length (item_in w len mem i) ≡ len
unfolding item_in
length_item_in w len mem i = length_tabulate len _

pub length_items_in : (w len : ℕ) (mem : List ℕ) (n : ℕ) → length (items_in w len mem n) ≡ n
unfolding items_in
length_items_in w len mem n = length_tabulate n (item_in w len mem)

pub get_d_items_in : (w len : ℕ) (mem : List ℕ) (n i : ℕ) (e : List Bool) → i < n → get_or (items_in w len mem n) i e ≡ item_in w len mem i
unfolding items_in
get_d_items_in w len mem n i e h = get_d_tabulate n (item_in w len mem) i e h

-- a packing: an item fills its place, and is read back from it
pub record Packing (w len : ℕ) (pack : List Bool → List ℕ) : Type 0 where
  pub size : (x : List Bool) → length (pack x) ≡ w
  pub back : (x : List Bool) → length x ≡ len → (mem : List ℕ) (i : ℕ)
      → ((b : ℕ) → b < w → get_or mem (i * w + b) 0 ≡ get_or (pack x) b 0) → item_in w len mem i ≡ x

-- the bits of its bytes are its entries
pub packing_bits : (w len : ℕ) (pack : List Bool → List ℕ) → len ≤ w * 8 → ((x : List Bool) → length (pack x) ≡ w)
    → ((x : List Bool) → length x ≡ len → (p : ℕ) → p < len → bit (get_or (pack x) (p / 8) 0) (p % 8) ≡ get_or x p false) → Packing w len pack
unfolding item_in
packing_bits w len pack few size bits =
    record {
      size = size;
      back = λ x e mem i f.
          ext_get_or false (item_in w len mem i) x (length_item_in w len mem i ∙ sym e)
          (λ p h. let l : p < len = subst (λ n. p < n) (length_item_in w len mem i) h in
          get_d_tabulate len _ p false l ∙ ap (λ y. bit y (p % 8)) (f (p / 8) (omega arith)) ∙ bits x e p l);
    }

both_say : {P : Type 0} (b c : Bool) → Says b P → Says c P → b ≡ c
both_say true c p q = sym (q.1 (p.0 refl))
both_say false true p q = p.1 (q.0 refl)
both_say false false p q = refl

module _ (w len : ℕ) (pack : List Bool → List ℕ) (packing : Packing w len pack) where
  -- items with the same bytes are the same
  bytes_injective : (x y : List Bool) → length x ≡ len → length y ≡ len → ((b : ℕ) → b < w → get_or (pack x) b 0 ≡ get_or (pack y) b 0) → x ≡ y
  bytes_injective x y e f q = sym (packing.back x e (pack x) 0 (λ b l. at b)) ∙ packing.back y f (pack x) 0 (λ b l. at b ∙ q b l)
    where
      at : (b : ℕ) → get_or (pack x) (0 * w + b) 0 ≡ get_or (pack x) b 0
      at b = let z : 0 * w + b ≡ b = omega arith in ap (λ k. get_or (pack x) k 0) z

  -- the bytes of an item that is held
  pub held_bytes : (mem : List ℕ) (n i : ℕ) → HoldsItems w len pack mem n → i < n → n * w ≤ length mem
      → take (i * w + w - i * w) (drop (i * w) mem) ≡ pack (item_in w len mem i)
  held_bytes mem n i g h l =
      let size : length (take (i * w + w - i * w) (drop (i * w) mem)) ≡ w = part_length (i * w) w mem (omega (arith, row_ends w n i h)) in
      ext_get_or 0 _ (pack (item_in w len mem i)) (size ∙ sym (packing.size (item_in w len mem i)))
      (λ b k. let small : b < w = subst (λ n. b < n) size k in part_at (i * w) w mem b small ∙ g.slot i b h small)

  -- another memory with the same first m items
  module _ (mem new : List ℕ) (m : ℕ) (holds : HoldsItems w len pack mem m) (same : (k : ℕ) → k < m * w → get_or new k 0 ≡ get_or mem k 0) where
    pub item_kept : (i : ℕ) → i < m → item_in w len new i ≡ item_in w len mem i
    item_kept i h =
        packing.back (item_in w len mem i) (length_item_in w len mem i) new i
        (λ b l. same (i * w + b) (omega (arith, row_ends w m i h)) ∙ holds.slot i b h l)

    pub items_kept : items_in w len new m ≡ items_in w len mem m
    unfolding items_in
    items_kept = tabulate_ext m (item_in w len new) (item_in w len mem) item_kept

    slot_kept : (i b : ℕ) → i < m → b < w → get_or new (i * w + b) 0 ≡ get_or (pack (item_in w len new i)) b 0
    slot_kept i b h l =
        same (i * w + b) (omega (arith, row_ends w m i h)) ∙ holds.slot i b h l ∙ ap (λ s. get_or (pack s) b 0) (sym (item_kept i h))

    pub holds_kept : HoldsItems w len pack new m
    holds_kept = record { slot = slot_kept }

    -- and the item x behind them
    module _ (x : List Bool) (size : length x ≡ len) (there : (b : ℕ) → b < w → get_or new (m * w + b) 0 ≡ get_or (pack x) b 0) where
      item_there : item_in w len new m ≡ x
      item_there = packing.back x size new m there

      pub items_more : items_in w len new (m + 1) ≡ items_in w len mem m ++ (x ∷ [])
      unfolding items_in
      items_more =
          ap (λ n. items_in w len new n) (add-one m) ∙ tabulate_suc m (item_in w len new)
          ∙ ap (λ l. l ++ (item_in w len new m ∷ [])) items_kept ∙ ap (λ s. items_in w len mem m ++ (s ∷ [])) item_there

      pub holds_more : HoldsItems w len pack new (m + 1)
      holds_more = record { slot = λ i b h l. at i b l (last_or_before m i h) }
        where
          at : (i b : ℕ) → b < w → (i ≡ m) ⊎ (i < m) → get_or new (i * w + b) 0 ≡ get_or (pack (item_in w len new i)) b 0
          at i b l (inl e) = rw e (there b l ∙ ap (λ s. get_or (pack s) b 0) (sym item_there))
          at i b l (inr h) = slot_kept i b h l

      -- the places with the same bytes are those with the same item
      same_slot_lem : (i : ℕ) → i < m → same_slot w new m i ≡ same_set x (get_or (items_in w len mem m) i [])
      unfolding same_slot
      same_slot_lem i h =
          both_say (same_slot w new m i) (same_set x (get_or (items_in w len mem m) i [])) (to, from) (same_set_says x (get_or (items_in w len mem m) i []))
        where
          f : ℕ → ℕ
          f y = get_or new (i * w + y) 0

          g : ℕ → ℕ
          g y = get_or new (m * w + y) 0

          is : get_or (items_in w len mem m) i [] ≡ item_in w len new i
          is = get_d_items_in w len mem m i [] h ∙ sym (item_kept i h)

          to : agree f g w ≡ true → x ≡ get_or (items_in w len mem m) i []
          to e =
              bytes_injective x (item_in w len new i) size (length_item_in w len new i)
              (λ b l. sym (there b l) ∙ sym (agree_at f g w b e l) ∙ slot_kept i b h l) ∙ sym is

          from : x ≡ get_or (items_in w len mem m) i [] → agree f g w ≡ true
          from e = agree_all f g w (λ b l. slot_kept i b h l ∙ ap (λ s. get_or (pack s) b 0) (sym (e ∙ is)) ∙ sym (there b l))

      -- the first place that is the same as the next one, m itself if there is none before
      module _ (t : ℕ) (first : t ≡ first_that (same_slot w new m) m) where
        none_before : (j : ℕ) → j < t → j < m → same_set x (get_or (items_in w len mem m) j []) ≡ false
        none_before j h l = sym (same_slot_lem j l) ∙ first_least (same_slot w new m) m j (rw first at h)

        pub place_old : t < m → (index_in same_set x (items_in w len mem m) ≡ t) × (is_in same_set x (items_in w len mem m) ≡ true)
        place_old h =
            index_found same_set x [] (items_in w len mem m) t (rw length_items_in h)
            (sym (same_slot_lem t h) ∙ ap (same_slot w new m) first ∙ first_passes (same_slot w new m) m (rw first at h))
            (λ j l. none_before j l (omega arith))

        pub place_new : t ≡ m → is_in same_set x (items_in w len mem m) ≡ false
        place_new e =
            index_none same_set x [] (items_in w len mem m)
            (λ j l. let k : j < m = rw length_items_in at l in none_before j (omega arith) k)
