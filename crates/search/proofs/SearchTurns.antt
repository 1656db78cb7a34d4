-- What holds between two turns of a search, for items of any length and packed in any way, any steps of each, any limit and any width of a row.
-- Assumes nothing.
use Rattle.std.specs.Prelude.{None, Some}
use Prim.Native.Nat.{ℕ, ◌+◌, ◌*◌, ◌≤◌, ◌<◌, ◌-◌}
use native.Mathlib.Nat.{mul-le-mul_right}
use native.Mathlib.Omega.{arith}
use mathlib.Core.Path.{◌≡◌, refl, sym, ap, ◌∙◌, subst}
use mathlib.Core.Bool.{Bool}
use mathlib.Core.List.{List, []}
use lib.ListN.{length, replicate, take, drop, length-drop}
use lib.Seq.{length-take-le}
use borrow.Rule.Slice.PartMut.{put_mid}
use Rattle.basics.specs.Lists.{below, written}
use Rattle.basics.specs.Reach.{Listing, closed, over, reachable}
use Rattle.search.specs.ReachableSets.{same_set}
use Rattle.basics.specs.Successors.{own_steps, grown_over, row_over}
use Rattle.search.specs.Slots.{item_in, items_in, HoldsItems, count_up_to, ExpandedItems, explored_of, RanItems}
use Rattle.basics.proofs.EqualRows.{row_ends}
use Rattle.basics.proofs.LentPart.{part_length}
use Rattle.basics.proofs.ListsLaws.{length_tabulate, written_whole}
use Rattle.search.proofs.ReachableSetsLaws.{same_set_says}
use Rattle.search.proofs.SlotsLaws.{length_items_in, get_d_items_in, Packing}
use Rattle.search.proofs.KeptItems.{holds_bytes, first_items, first_holds, count_found, count_many}
use Rattle.basics.proofs.BreadthFirst.{search_from, search_begin, search_turn, search_end, search_over}
use Rattle.basics.proofs.BreadthFirst.{row_length, Rows, rows_none, grown_length, rows_more, rows_all_lem}

-- the row of c steps fills a part of c entries
pub whole_row : (w len : ℕ) (pack : List Bool → List ℕ) (f : List Bool → ℕ → List Bool) (limit c : ℕ) (xs ys : List (List Bool)) (s : List Bool)
    (part mem row : List ℕ) → length part ≡ c → ExpandedItems w len pack limit xs (row_over same_set f (below c) ys s) mem row
    → ExpandedItems w len pack limit xs (written (row_over same_set f (below c) ys s) part) mem row
whole_row w len pack f limit c xs ys s part mem row e x =
    let long = row_length same_set f (below c) ys s ∙ length_tabulate c (λ k. k) ∙ sym e in
    record { items_are = x.items_are; holds = x.holds; row_is = λ l. x.row_is l ∙ sym (written_whole _ part long) }

-- what the first steps of each thing lead to; `count s` is the number of those of s
abbrev first_steps : (List Bool → ℕ → List Bool) → (List Bool → ℕ) → List Bool → List (List Bool)
first_steps f count = own_steps f (λ s. below (count s))

-- `all` is the answer of the whole search; the memory holds n items, of which i have had their steps taken and have their rows
pub record Turn (w len : ℕ) (pack : List Bool → List ℕ) (f : List Bool → ℕ → List Bool) (first : List Bool) (limit width : ℕ) (count : List Bool → ℕ)
    (all : Listing (List Bool)) (mem rows : List ℕ) (n i : ℕ) : Type 0 where
  pub few : n ≤ limit
  pub read : i ≤ n
  pub holds : HoldsItems w len pack mem n
  pub goes : all ≡ search_from same_set (first_steps f count) first limit (items_in w len mem n) i
  pub filled : Rows same_set f count width [] (items_in w len mem n) i rows

module _ {w len : ℕ} {pack : List Bool → List ℕ} {f : List Bool → ℕ → List Bool} {first : List Bool}
    {limit width : ℕ} {count : List Bool → ℕ} {all : Listing (List Bool)} where
  pub turn_begin : Packing w len pack → length first ≡ len → 0 < limit → all ≡ reachable same_set (first_steps f count) first limit
      → (k : ℕ) (mem bytes rows : List ℕ) → bytes ≡ pack first → k ≡ w → w ≤ length mem
      → (m : ℕ) → rows ≡ replicate m 0 → Turn w len pack f first limit width count all (put_mid 0 k mem bytes) rows 1 0
  turn_begin packing long some e k mem bytes rows is size room m zeros =
      record {
        few = omega arith;
        read = omega arith;
        holds = first_holds w len pack packing first long k mem bytes is size room;
        goes =
            e ∙ search_begin same_set (first_steps f count) first limit
            ∙ ap (λ xs. search_from same_set (first_steps f count) first limit xs 0) (sym (first_items w len pack packing first long k mem bytes is size room));
        filled = subst (Rows same_set f count width [] (items_in w len (put_mid 0 k mem bytes) 1) 0) (sym zeros) (rows_none same_set f count width [] _ m);
      }

  module _ {mem rows : List ℕ} {n i : ℕ} (t : Turn w len pack f first limit width count all mem rows n i) where
    within : length (items_in w len mem n) ≤ limit
    within = subst (λ m. m ≤ limit) (sym (length_items_in w len mem n)) t.few

    module _ (here : i < n) where
      -- there is room for a row of this turn
      pub turn_row : (k : ℕ) → k ≤ width → length rows ≡ limit * width
          → (i * width + k ≤ length rows) × (length (take (i * width + k - i * width) (drop (i * width) rows)) ≡ k)
      turn_row k small size =
          let room : i * width + k ≤ length rows = omega (arith, row_ends width n i here, mul-le-mul_right width t.few) in
          (room, part_length (i * width) k rows room)

      before : i < length (items_in w len mem n)
      before = subst (λ m. i < m) (sym (length_items_in w len mem n)) here

      abbrev item : List Bool
      item = item_in w len mem i

      goes_on_lem : all ≡ search_from same_set (first_steps f count) first limit (grown_over same_set f (below (count item)) (items_in w len mem n) item) (i + 1)
      unfolding grown_over
      goes_on_lem =
          t.goes
          ∙ search_turn same_set (first_steps f count) first limit (items_in w len mem n) i item within before (get_d_items_in w len mem n i first here)

      -- c steps are taken
      module _ (c : ℕ) (is_c : c ≡ count item) where
        -- the items after this turn, and their numbers
        abbrev after_turn : List (List Bool)
        after_turn = grown_over same_set f (below c) (items_in w len mem n) item

        abbrev row_of_turn : List ℕ
        row_of_turn = row_over same_set f (below c) after_turn item

        pub turn_over : limit < length after_turn → all ≡ over
        turn_over q =
            goes_on_lem
            ∙ search_over same_set (first_steps f count) first limit (grown_over same_set f (below (count item)) (items_in w len mem n) item) (i + 1)
            (subst (λ k. limit < length (grown_over same_set f (below k) (items_in w len mem n) item)) is_c q)

        pub turn_many : (mem' rows' : List ℕ) → None ≡ count_up_to limit after_turn
            → (None ≡ explored_of all) × RanItems w pack f (λ s. below (count s)) width all mem' rows'
        turn_many mem' rows' q =
            subst (λ l. (None ≡ explored_of l) × RanItems w pack f (λ s. below (count s)) width l mem' rows')
            (sym (turn_over (count_many limit after_turn q))) (refl, tt)

        -- the row is written at the front of a part of k entries
        pub turn_next : (m at k : ℕ) (mem' row : List ℕ) → ((s : List Bool) → count s ≤ width) → c ≤ k → k ≤ width → at ≡ i * width → at + k ≤ length rows
            → Some m ≡ count_up_to limit after_turn
            → ExpandedItems w len pack limit after_turn (written row_of_turn (take k (drop at rows))) mem' row
            → Turn w len pack f first limit width count all mem' (put_mid at k rows row) m (i + 1)
        turn_next m at k mem' row wide few small is_at room q e =
            record {
              few = omega (arith, size.0, size.1);
              read = omega (arith, grows);
              holds = subst (HoldsItems w len pack mem') (sym size.1) (e.holds size.0);
              goes = goes_on_lem ∙ ap (λ xs. search_from same_set (first_steps f count) first limit xs (i + 1)) (sym items);
              filled =
                  subst (λ y. Rows same_set f count width [] (items_in w len mem' m) (i + 1) (put_mid y k rows row)) (sym is_at)
                  (rows_more same_set f count width [] same_set_says (items_in w len mem n) (items_in w len mem' m) i k item rows row
                  before (get_d_items_in w len mem n i [] here) items is_row_lem (omega (arith, is_c)) small (omega arith) t.filled wide);
            }
          where
            size : (length after_turn ≤ limit) × (m ≡ length after_turn)
            size = count_found limit after_turn m q

            items : items_in w len mem' m ≡ grown_over same_set f (below (count item)) (items_in w len mem n) item
            items =
                ap (items_in w len mem') size.1 ∙ e.items_are size.0
                ∙ ap (λ j. grown_over same_set f (below j) (items_in w len mem n) item) is_c

            is_row_lem : row ≡ written (row_over same_set f (below (count item)) (items_in w len mem' m) item) (take k (drop (i * width) rows))
            is_row_lem =
                e.row_is size.0 ∙ ap (λ y. written row_of_turn (take k (drop y rows))) is_at
                ∙ ap (λ r. written r (take k (drop (i * width) rows)))
                (ap (λ j. row_over same_set f (below j) (grown_over same_set f (below j) (items_in w len mem n) item) item) is_c
                ∙ ap (λ xs. row_over same_set f (below (count item)) xs item) (sym items))

            grows : n ≤ m
            grows =
                omega (
                  arith,
                  grown_length same_set f count width [] same_set_says (items_in w len mem n) item,
                  length_items_in w len mem n,
                  sym (length_items_in w len mem' m) ∙ ap length items,
                )

        -- the row fills the part
        pub turn_whole : (m at k : ℕ) (mem' row : List ℕ) → ((s : List Bool) → count s ≤ width) → k ≡ c → at ≡ i * width → at + k ≤ length rows
            → Some m ≡ count_up_to limit after_turn → ExpandedItems w len pack limit after_turn row_of_turn mem' row
            → Turn w len pack f first limit width count all mem' (put_mid at k rows row) m (i + 1)
        turn_whole m at k mem' row wide is-k is_at room q e =
            turn_next m at k mem' row wide (omega arith) (omega (arith, is_c, wide item)) is_at room q
            (whole_row w len pack f limit c after_turn after_turn item (take k (drop at rows)) mem' row
            (length-take-le k (drop at rows) (omega (arith, length-drop at rows)) ∙ is-k) e)

    module _ (none_left : n ≤ i) where
      pub turn_closed : all ≡ closed (items_in w len mem n)
      turn_closed =
          t.goes
          ∙ search_end same_set (first_steps f count) first limit (items_in w len mem n) i within (omega (arith, t.read, none_left, length_items_in w len mem n))

      pub turn_answer : Some n ≡ explored_of all
      turn_answer = ap Some (sym (length_items_in w len mem n)) ∙ ap explored_of (sym turn_closed)

      pub turn_left : Packing w len pack → 0 < width → ((s : List Bool) → count s ≤ width) → n * w ≤ length mem → n * width ≤ length rows
          → RanItems w pack f (λ s. below (count s)) width all mem rows
      turn_left packing some small room space =
          subst (λ l. RanItems w pack f (λ s. below (count s)) width l mem rows) (sym turn_closed) (
            ap (λ m. take (m * w) mem) (length_items_in w len mem n) ∙ holds_bytes w len pack packing mem n room t.holds,
            rows_all_lem same_set f count width [] (items_in w len mem n) rows some small
                (subst (λ m. m * width ≤ length rows) (sym (length_items_in w len mem n)) space)
                (subst (λ m. Rows same_set f count width [] (items_in w len mem n) m rows) (omega (arith, t.read, none_left, length_items_in w len mem n))
                t.filled),
          )
