-- How a search takes its steps, turn by turn.
-- Assumes nothing.
use Prim.Native.Nat.{ℕ, zero, suc, ◌+◌, ◌-◌, ◌*◌, ◌/◌, ◌%◌, ◌≤◌, ◌<◌}
use native.Mathlib.Nat.{div-add-mod', mod-lt, mul-le-mul_right, lt_of_lt_of_le}
use native.Mathlib.Numerals.{add-one}
use native.Mathlib.Decide.{dec_lt}
use native.Mathlib.Omega.{arith}
use mathlib.Core.Path.{◌≡◌, refl, sym, ap, ap₂, ◌∙◌, subst}
use mathlib.Core.Logic.{◌⊎◌, inl, inr}
use mathlib.Core.Bool.{Bool, true, false}
use mathlib.Core.List.Memᴰ
use mathlib.Core.List.{List, [], ◌∷◌, ◌++◌, flat_map}
use lib.Dec.{ltb}
use lib.ListN.{length, get_or, take, drop, replicate, length-append, length-drop, length-map, get_or-append}
use lib.Seq.{ext_get_or, get_or-take, get_or-drop, length-take-le}
use borrow.Author.Tests.{ltb-true, ltb-false, lt-ltb, le-ltb, eq-eqb, ne_eqb}
use borrow.Rule.Slice.PartMut.{put_mid}
use Rattle.basics.specs.Says.{Says}
use Rattle.basics.specs.Lists.{below, padded, written}
use Rattle.basics.specs.Reach.{Listing, closed, over, is_in, index_in, add_all, explore, reachable}
use Rattle.basics.specs.Successors.{steps_over, grown_over, row_over, rows_over}
use Rattle.basics.proofs.ListsLaws.{length_tabulate, get_d_map_below, get_d_zeros, past_end, padded_length, written_length, written_behind}
use Rattle.basics.proofs.MemberLaws.{in_below}
use Rattle.basics.proofs.BoundedLaws.{last_or_before}
use Rattle.basics.proofs.GrowingList.{index_kept}
use Rattle.basics.proofs.EqualRows.{row_ends, length_rows, get_d_rows}
use Rattle.basics.proofs.LentPart.{mid_before, mid_in, mid_after}
use Rattle.basics.proofs.ReachLaws.{is_in_says, added_all}

-- ---- the search from here on is the whole search

module _ {K : Type 0} (same : K → K → Bool) (steps : K → List K) (first : K) (limit : ℕ) where
  -- what is left of the search, with things xs of which i have had their steps taken
  unfoldable pub search_from : List K → ℕ → Listing K
  search_from xs i = explore same steps first limit (suc limit - i) xs i

  pub search_begin : reachable same steps first limit ≡ search_from (first ∷ []) 0
  unfolding reachable search_from
  search_begin = ap (λ n. explore same steps first limit n (first ∷ []) 0) (omega arith)

  -- the steps from one are taken
  pub search_turn : (xs : List K) (i : ℕ) (s : K) → length xs ≤ limit → i < length xs → get_or xs i first ≡ s
      → search_from xs i ≡ search_from (add_all same xs (steps s)) (i + 1)
  unfolding search_from explore
  search_turn xs i s l h e =
      let f : suc limit - i ≡ suc (suc limit - (i + 1)) = omega arith in
      rw (f, le-ltb limit (length xs) l, ne_eqb i (length xs) (λ q. omega arith), e, add-one)

  -- all have had their steps taken
  pub search_end : (xs : List K) (i : ℕ) → length xs ≤ limit → i ≡ length xs → search_from xs i ≡ closed xs
  unfolding search_from explore
  search_end xs i l e =
      let f : suc limit - i ≡ suc (limit - i) = omega arith in
      rw (f, le-ltb limit (length xs) l, eq-eqb i (length xs) e)

  -- there are too many
  pub search_over : (xs : List K) (i : ℕ) → limit < length xs → search_from xs i ≡ over
  unfolding search_from explore
  search_over xs i l = at (suc limit - i)
    where
      at : (fuel : ℕ) → explore same steps first limit fuel xs i ≡ over
      at zero = refl
      at (suc fuel) = rw (lt-ltb limit (length xs) l)

-- ---- the rows of those that have had their steps taken

-- an entry for each step
pub row_length : {K : Type 0} (same : K → K → Bool) (f : K → ℕ → K) (steps : List ℕ) (xs : List K) (s : K)
    → length (row_over same f steps xs s) ≡ length steps
unfolding row_over
row_length same f steps xs s = length-map steps _

-- `count s` is the number of steps from s
module _ {K : Type 0} (same : K → K → Bool) (f : K → ℕ → K) (count : K → ℕ) (width : ℕ) (none : K) where
  -- row j has the number of what each step leads to from thing j; all else is 0
  pub record Rows (xs : List K) (i : ℕ) (rows : List ℕ) : Type 0 where
    pub there : (j b : ℕ) → j < i → b < count (get_or xs j none) → is_in same (f (get_or xs j none) b) xs ≡ true
    pub number : (j b : ℕ) → j < i → b < count (get_or xs j none) → get_or rows (j * width + b) 0 ≡ index_in same (f (get_or xs j none) b) xs
    pub rest : (j b : ℕ) → j < i → count (get_or xs j none) ≤ b → b < width → get_or rows (j * width + b) 0 ≡ 0
    pub behind : (j b : ℕ) → i ≤ j → b < width → get_or rows (j * width + b) 0 ≡ 0

  pub rows_none : (xs : List K) (n : ℕ) → Rows xs 0 (replicate n 0)
  rows_none xs n =
      record {
        there = λ j b h l. absurd (omega arith);
        number = λ j b h l. absurd (omega arith);
        rest = λ j b h l m. absurd (omega arith);
        behind = λ j b h l. get_d_zeros n (j * width + b);
      }

  abbrev row : List K → K → List ℕ
  row xs s = row_over same f (below (count s)) xs s

  get_d_row : (xs : List K) (s : K) (b : ℕ) → b < count s → get_or (row xs s) b 0 ≡ index_in same (f s b) xs
  unfolding row_over
  get_d_row xs s b h = get_d_map_below (count s) (λ a. index_in same (f s a) xs) b 0 h

  length_row : (xs : List K) (s : K) → length (row xs s) ≡ count s
  length_row xs s = row_length same f (below (count s)) xs s ∙ length_tabulate (count s) (λ k. k)

  module _ (says : (x y : K) → Says (same x y) (x ≡ y)) where
    -- everything that a step leads to is there once the steps have been taken
    grown_there : (xs : List K) (s : K) (b : ℕ) → b < count s → is_in same (f s b) (grown_over same f (below (count s)) xs s) ≡ true
    unfolding grown_over
    grown_there xs s b h =
        (is_in_says same says (f s b) _).1
        ((added_all same says (steps_over f (below (count s)) s) xs).has (f s b) (Memᴰ.map (f s) ((in_below (count s) b).1 h)))

    grown_tail : (xs : List K) (s : K) → (ys : List K) × (grown_over same f (below (count s)) xs s ≡ xs ++ ys)
    unfolding grown_over
    grown_tail xs s = let r = added_all same says (steps_over f (below (count s)) s) xs in (r.tail, r.extends)

    pub grown_length : (xs : List K) (s : K) → length xs ≤ length (grown_over same f (below (count s)) xs s)
    grown_length xs s = let t = grown_tail xs s in omega (arith, ap length t.1 ∙ length-append xs t.0)

    -- one more row, written at the front of a part of k entries
    module _ (xs zs : List K) (i k : ℕ) (s : K) (rows new : List ℕ) (h : i < length xs) (at_s : get_or xs i none ≡ s)
        (is_zs : zs ≡ grown_over same f (below (count s)) xs s) (is_new : new ≡ written (row zs s) (take k (drop (i * width) rows)))
        (few : count s ≤ k) (narrow : k ≤ width) (room : i * width + k ≤ length rows) (r : Rows xs i rows) where
      tail : (ys : List K) × (zs ≡ xs ++ ys)
      tail = let t = grown_tail xs s in (t.0, is_zs ∙ t.1)

      entry : (j : ℕ) → j < length xs → get_or zs j none ≡ get_or xs j none
      entry j l = ap (λ t. get_or t j none) tail.1 ∙ get_or-append xs tail.0 none j l

      entry_s : (j : ℕ) → j ≡ i → get_or zs j none ≡ s
      entry_s j e = entry j (omega arith) ∙ ap (λ n. get_or xs n none) e ∙ at_s

      part_long : length (take k (drop (i * width) rows)) ≡ k
      part_long = length-take-le k (drop (i * width) rows) (omega (arith, length-drop (i * width) rows))

      long : length new ≡ k
      long = ap length is_new ∙ written_length (row zs s) (take k (drop (i * width) rows)) (omega (arith, length_row zs s, part_long)) ∙ part_long

      abbrev rows' : List ℕ
      rows' = put_mid (i * width) k rows new

      -- its entries, and those of the part behind them
      here : (b : ℕ) → b < count s → get_or rows' (i * width + b) 0 ≡ index_in same (f s b) zs
      here b l =
          mid_in rows (i * width) k new room long b (omega arith) ∙ ap (λ t. get_or t b 0) is_new
          ∙ get_or-append (row zs s) _ 0 b (subst (λ n. b < n) (sym (length_row zs s)) l) ∙ get_d_row zs s b l

      after : (b : ℕ) → count s ≤ b → b < width → get_or rows' (i * width + b) 0 ≡ 0
      after b l m =
          elim (dec_lt b k) [
            | yes q ↦
                mid_in rows (i * width) k new room long b q ∙ ap (λ t. get_or t b 0) is_new
                ∙ written_behind (row zs s) (take k (drop (i * width) rows)) b (omega (arith, length_row zs s))
                ∙ get_or-take k (drop (i * width) rows) b 0 q ∙ get_or-drop (i * width) rows b 0 ∙ r.behind i b (omega arith) m
            | no q ↦ mid_after rows (i * width) k new room long (i * width + b) (omega arith) ∙ r.behind i b (omega arith) m
          ]

      -- the rows before are as they were
      earlier : (j b : ℕ) → j < i → b < width → get_or rows' (j * width + b) 0 ≡ get_or rows (j * width + b) 0
      earlier j b l m = mid_before rows (i * width) k new room (j * width + b) (omega (arith, row_ends width i j l))

      pub rows_more : ((s : K) → count s ≤ width) → Rows zs (i + 1) rows'
      rows_more wide =
          record {
            there = λ j b l m. there j b m (last_or_before i j l);
            number = λ j b l m. number j b m (last_or_before i j l);
            rest = λ j b l m n. rest j b m n (last_or_before i j l);
            behind = λ j b l m.
                let g : i < j = omega arith in
                mid_after rows (i * width) k new room long (j * width + b) (omega (arith, row_ends width j i g)) ∙ r.behind j b (omega arith) m;
          }
        where
          old : (j b : ℕ) → j < i → b < count (get_or zs j none) → b < count (get_or xs j none)
          old j b l = subst (λ t. b < count t) (entry j (omega arith))

          there : (j b : ℕ) → b < count (get_or zs j none) → (j ≡ i) ⊎ (j < i) → is_in same (f (get_or zs j none) b) zs ≡ true
          there j b m (inl e) =
              ap₂ (λ t u. is_in same (f t b) u) (entry_s j e) is_zs ∙ grown_there xs s b (subst (λ t. b < count t) (entry_s j e) m)
          there j b m (inr l) =
              ap₂ (λ t u. is_in same (f t b) u) (entry j (omega arith)) tail.1
              ∙ (index_kept same (f (get_or xs j none) b) xs tail.0 (r.there j b l (old j b l m))).1

          number : (j b : ℕ) → b < count (get_or zs j none) → (j ≡ i) ⊎ (j < i) → get_or rows' (j * width + b) 0 ≡ index_in same (f (get_or zs j none) b) zs
          number j b m (inl e) =
              ap (λ n. get_or rows' (n * width + b) 0) e ∙ here b (subst (λ t. b < count t) (entry_s j e) m)
              ∙ ap (λ t. index_in same (f t b) zs) (sym (entry_s j e))
          number j b m (inr l) =
              earlier j b l (lt_of_lt_of_le m (wide (get_or zs j none))) ∙ r.number j b l (old j b l m)
              ∙ sym (ap₂ (λ t u. index_in same (f t b) u) (entry j (omega arith)) tail.1
              ∙ (index_kept same (f (get_or xs j none) b) xs tail.0 (r.there j b l (old j b l m))).0)

          rest : (j b : ℕ) → count (get_or zs j none) ≤ b → b < width → (j ≡ i) ⊎ (j < i) → get_or rows' (j * width + b) 0 ≡ 0
          rest j b m n (inl e) = ap (λ n. get_or rows' (n * width + b) 0) e ∙ after b (subst (λ t. count t ≤ b) (entry_s j e) m) n
          rest j b m n (inr l) = earlier j b l n ∙ r.rest j b l (subst (λ t. count t ≤ b) (entry j (omega arith)) m) n

  -- all rows
  pub rows_all_lem : (xs : List K) (rows : List ℕ) → 0 < width → ((s : K) → count s ≤ width) → length xs * width ≤ length rows → Rows xs (length xs) rows
      → rows ≡ padded (length rows) (rows_over same f (λ s. below (count s)) width (closed xs))
  rows_all_lem xs rows some few room r = ext_get_or 0 rows _ (sym total) (λ y h. entry y)
    where
      g : K → List ℕ
      g s = padded width (row xs s)

      wide : (s : K) → length (g s) ≡ width
      wide s = padded_length width (row xs s) (omega (arith, length_row xs s, few s))

      total : length (padded (length rows) (flat_map g xs)) ≡ length rows
      total = padded_length (length rows) (flat_map g xs) (omega (arith, length_rows width g wide xs))

      cell : (j b : ℕ) → b < width → (v : Bool) → ltb j (length xs) ≡ v
          → get_or rows (j * width + b) 0 ≡ get_or (padded (length rows) (flat_map g xs)) (j * width + b) 0
      cell j b l true e =
          let h : j < length xs = ltb-true j (length xs) e in
          within (ltb b (count (get_or xs j none))) refl
          ∙ sym (get_or-append (flat_map g xs) _ 0 (j * width + b) (omega (arith, length_rows width g wide xs, row_ends width (length xs) j h))
          ∙ get_d_rows width g wide xs none j b h l)
        where
          within : (u : Bool) → ltb b (count (get_or xs j none)) ≡ u → get_or rows (j * width + b) 0 ≡ get_or (g (get_or xs j none)) b 0
          within true q =
              let m : b < count (get_or xs j none) = ltb-true b _ q in
              r.number j b (ltb-true j (length xs) e) m
              ∙ sym (get_or-append (row xs (get_or xs j none)) _ 0 b (subst (λ n. b < n) (sym (length_row xs (get_or xs j none))) m)
              ∙ get_d_row xs (get_or xs j none) b m)
          within false q =
              let m : count (get_or xs j none) ≤ b = ltb-false b _ q in
              r.rest j b (ltb-true j (length xs) e) m l
              ∙ sym (past_end width (row xs (get_or xs j none)) b (omega (arith, length_row xs (get_or xs j none))))
      cell j b l false e =
          let h : length xs ≤ j = ltb-false j (length xs) e in
          let behind : length xs * width ≤ j * width = mul-le-mul_right width h in
          r.behind j b h l ∙ sym (past_end (length rows) (flat_map g xs) (j * width + b) (omega (arith, length_rows width g wide xs)))

      entry : (y : ℕ) → get_or rows y 0 ≡ get_or (padded (length rows) (flat_map g xs)) y 0
      entry y =
          subst (λ n. get_or rows n 0 ≡ get_or (padded (length rows) (flat_map g xs)) n 0) (div-add-mod' y width)
          (cell (y / width) (y % width) (mod-lt y some) _ refl)
