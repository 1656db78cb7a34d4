-- The table is written row by row, while the search for its rows goes on.
-- Assumes nothing.
use Prim.Native.Nat.{ℕ, zero, suc, ◌+◌, ◌-◌, ◌*◌, ◌≤◌, ◌<◌}
use native.Mathlib.Numerals.{add-one}
use native.Mathlib.Omega.{arith}
use mathlib.Core.Path.{◌≡◌, refl, sym, ap, ap₂, ◌∙◌, subst}
use mathlib.Core.Bool.{true, false}
use mathlib.Core.List.{List, [], ◌∷◌, ◌++◌, flat_map, append_assoc, append-nil}
use lib.Dec.{eqb}
use lib.ListN.{length, get_or, take, drop, replicate, length-drop, length-append, length-replicate}
use lib.Seq.{length-take-le, get_or-take, take_all, take_at, drop-drop, drop_at}
use borrow.Author.Tests.{eq-eqb, ne_eqb}
use borrow.Rule.Slice.PartMut.{put_mid, same_len_mid}
use Rattle.basics.specs.Lists.{tabulate, below, written}
use Rattle.basics.specs.declared.order.Order.{Order}
use Rattle.basics.specs.declared.order.Order.TheVariants.{Set, Read}
use Rattle.basics.proofs.ListsLaws.{length_tabulate, tabulate_ext, get_d_table}
use Rattle.basics.specs.Member.{◌∈◌}
use Rattle.basics.specs.Reach.{closed, index_in, add_all, reachable}
use Rattle.basics.proofs.MemberLaws.{in_below, in_tabulate, get_d_in}
use Rattle.basics.proofs.ReachLaws.{added_all, closed_lists}
use Rattle.basics.proofs.EqualRows.{length_rows}
use Rattle.basics.proofs.BreadthFirst.{search_from, search_begin, search_turn}
use Rattle.play.specs.Limits.{belief_limit}
use Rattle.play.specs.Cells.{row_size, table_size, stop_row, choice_row, with_rank}
use Rattle.play.specs.Rank.{Arena, rank_from, best_answer}
use Rattle.play.specs.Table.{list_of, followers_by, followers, rows, row_of, table_cells}
use Rattle.play.specs.Answer.{start_rank}
use Rattle.tables.specs.PositionMemory.{arena_in, Positions, Choices, ranks_below, next_of, next_by, answer_at, answers_at, rows_with, row_with}
use Rattle.basics.proofs.Booleans.{clash}
use Rattle.basics.proofs.BoundedLaws.{first_passes, first_least}
use Rattle.play.proofs.StepOrder.{StepOrder, order_of}
use Rattle.play.proofs.RankLaws.{In, HasRank, rank_searched, final_rank}
use Rattle.play.proofs.FiniteArena.{Closed}
use Rattle.play.proofs.Optimality.{descends}
use Rattle.play.proofs.RankedRows.{Ranked, rows_listed, rows_ranked}
use Rattle.play.proofs.TableLaws.{row_stop, row_goes, row_width}
use Rattle.play.proofs.CellsLaws.{choice_ext}
use Rattle.basics.proofs.SaysLaws.{eqb_says}
use Rattle.tables.proofs.PositionMemoryLaws.{own_read, answer_read}
use Rattle.tables.proofs.writing.RowCells.{first_at, stop_ranked}
use Rattle.tables.proofs.writing.SearchTurns.{search_found, search_length, search_at, search_number}

-- ---- lists of rows

-- one more row
flat_more : {K : Type 0} (g : K → List ℕ) (xs : List K) (i : ℕ) (d : K) → i < length xs
    → flat_map g (take (i + 1) xs) ≡ flat_map g (take i xs) ++ g (get_or xs i d)
unfolding flat_map
flat_more {K} g xs i d h = ap (λ j. flat_map g (take j xs)) (add-one i) ∙ at xs i h
  where
    at : (xs : List K) (i : ℕ) → i < length xs → flat_map g (take (suc i) xs) ≡ flat_map g (take i xs) ++ g (get_or xs i d)
    at [] i h = absurd (omega arith)
    at (x ∷ xs) zero h = append-nil (g x)
    at (x ∷ xs) (suc i) h = ap (λ t. g x ++ t) (at xs i (omega arith)) ∙ sym (append_assoc (g x) (flat_map g (take i xs)) (g (get_or xs i d)))

-- a part is put right behind the front
front_more : (front row memory whole : List ℕ) (at k : ℕ) → length front ≡ at → whole ≡ front ++ drop at memory
    → put_mid at k whole row ≡ (front ++ row) ++ drop (at + k) memory
front_more front row memory whole at k lf e =
    ap₂ (λ t u. t ++ (row ++ drop k u)) (ap (take at) e ∙ take_at front (drop at memory) at lf) (ap (drop at) e ∙ drop_at front (drop at memory) at lf)
    ∙ ap (λ t. front ++ (row ++ t)) (drop-drop k at memory) ∙ sym (append_assoc front row (drop (at + k) memory))

add_nothing : (xs : List ℕ) → add_all eqb xs [] ≡ xs
unfolding add_all
add_nothing xs = refl

-- ---- where rows stand

rows_next : (o : Order) (i : ℕ) → i * row_size o + row_size o ≡ (i + 1) * row_size o
rows_next Set i = omega arith
rows_next Read i = omega arith

-- a table has room for as many rows as there can be
pub row_room : (o : Order) (i size : ℕ) → i < belief_limit → size ≡ row_size o → i * size + size ≤ table_size
row_room o i size h e = subst (λ w. i * w + w ≤ table_size) (sym e) (on o)
  where
    on : (o : Order) → i * row_size o + row_size o ≤ table_size
    on Set = omega arith
    on Read = omega arith

module _ (o : Order) (n choices observations : ℕ) (moves finals : List ℕ) where
  abbrev arena : Arena
  arena = arena_in choices moves finals

  -- the positions that follow a row
  unfoldable pub after : ℕ → List ℕ
  after = followers o arena eqb choices observations n

  -- the rows of the whole table
  unfoldable pub all_rows : List ℕ
  all_rows = rows o arena eqb choices observations n

  -- the cells of a row
  unfoldable pub cells_of : ℕ → List ℕ
  cells_of = row_of o arena eqb choices observations n all_rows

  -- m rows are met, of which i are written
  pub record Turn (table₀ : List ℕ) (i m : ℕ) (met table : List ℕ) : Type 0 where
    pub read : i ≤ m
    pub few : m ≤ belief_limit
    pub long : length met ≡ belief_limit
    pub goes : search_from eqb after 0 n (take m met) i ≡ closed all_rows
    pub wide : length table ≡ length table₀
    pub cells : table ≡ flat_map cells_of (take i all_rows) ++ drop (i * row_size o) table₀

  -- ---- the row of a position

  abbrev answer_for : ℕ → ℕ → ℕ
  answer_for = best_answer o arena choices observations n

  abbrev rank_for : ℕ → ℕ
  rank_for = rank_from o arena choices observations n

  cells_stop : (k : ℕ) → arena.final k ≡ true → rank_for k ≡ 0 → cells_of k ≡ stop_row o
  unfolding cells_of
  cells_stop k t e = ap₂ (with_rank o) e (row_stop o arena eqb choices observations n all_rows k t) ∙ stop_ranked o

  cells_goes : (k : ℕ) → arena.final k ≡ false
      → cells_of k ≡ with_rank o (rank_for k) (choice_row o observations (answer_for k) (λ s. index_in eqb (arena.move k (answer_for k s) s) all_rows))
  unfolding cells_of
  cells_goes k f = ap (with_rank o (rank_for k)) (row_goes o arena eqb choices observations n all_rows k f)

  cells_length : (k : ℕ) → length (cells_of k) ≡ row_size o
  unfolding cells_of
  cells_length k = row_width o arena eqb choices observations n all_rows k

  after_stop : (k : ℕ) → arena.final k ≡ true → after k ≡ []
  unfolding after
  after_stop k t = rw (t, followers_by)

  after_goes : (k : ℕ) → arena.final k ≡ false → after k ≡ tabulate observations (λ s. arena.move k (answer_for k s) s)
  unfolding after
  after_goes k f = rw (f, followers_by)

  -- ---- the rows are found, and all are ranked

  module _ (P : Positions n choices observations moves finals) (start_ranked : start_rank o arena eqb choices observations n < n) where
    abbrev O : StepOrder choices observations
    O = order_of o choices observations

    inside : Closed O arena P.some_observation (below n)
    inside k m f c cb s sb = (in_below n _).1 (P.inside k c s ((in_below n k).0 m) cb sb)

    start_in : 0 ∈ below n
    start_in = (in_below n 0).1 P.some

    fits : length (below n) ≤ n
    fits = omega (arith, length_tabulate n (λ k. k))

    abbrev start_rank_lem : ℕ
    start_rank_lem = start_rank o arena eqb choices observations n

    start_has : HasRank O arena 0 start_rank_lem
    start_has = (first_passes (λ q. In O arena q 0) n start_ranked, first_least (λ q. In O arena q 0) n)

    listed : (l : List ℕ) × (reachable eqb after 0 n ≡ closed l)
    unfolding after
    listed =
        rows_listed O arena eqb eqb_says P.some_observation (below n) inside start_in n fits
        answer_for (descends o arena choices observations n)
        start_rank_lem start_ranked start_has

    found : reachable eqb after 0 n ≡ closed all_rows
    unfolding after all_rows
    found = let (l, e) = listed in e ∙ ap closed (sym (ap list_of e))

    rows_few : length all_rows ≤ belief_limit
    rows_few = omega (arith, (closed_lists eqb eqb_says after 0 n all_rows found).1, P.few)

    row_ranked : (k : ℕ) → k ∈ all_rows
        → Ranked O arena eqb eqb_says P.some_observation (below n) inside start_in n fits
        answer_for (descends o arena choices observations n) start_rank_lem start_ranked start_has k
    unfolding after
    row_ranked k m =
        rows_ranked O arena eqb eqb_says P.some_observation (below n) inside start_in n fits
        answer_for (descends o arena choices observations n)
        start_rank_lem start_ranked start_has all_rows found k m

    row_lt : (k : ℕ) → k ∈ all_rows → k < n
    row_lt k m = (in_below n k).0 (row_ranked k m).0

    -- the rank of a row is found
    row_rank : (k : ℕ) → k ∈ all_rows → (rank_for k < n) × HasRank O arena k (rank_for k)
    row_rank k m =
        let (_, q, b, a) = row_ranked k m in
        let small : q < n = omega arith in
        subst (λ (r : ℕ). (r < n) × HasRank O arena k r) (sym (rank_searched O arena n q k small a)) (small, a)

    -- a row that is not final has a rank over 0, and takes choices
    row_chooses : (k : ℕ) → k ∈ all_rows → arena.final k ≡ false
        → (q : ℕ) × (suc q < n) × HasRank O arena k (suc q) × ((s : ℕ) → s < observations → answer_for k s < choices)
    row_chooses k m f = let (b, a) = row_rank k m in on (rank_for k) b a
      where
        on : (q : ℕ) → q < n → HasRank O arena k q
            → (q : ℕ) × (suc q < n) × HasRank O arena k (suc q) × ((s : ℕ) → s < observations → answer_for k s < choices)
        on zero b a = clash a.0 f
        on (suc q) b a = (q, b, a, O.below (answer_for k) (descends o arena choices observations n k q b a).0)

    -- ---- turn by turn

    pub turn_begin : (table : List ℕ) → Turn table 0 1 (replicate belief_limit 0) table
    unfolding flat_map
    turn_begin table =
        record {
          read = omega arith;
          few = omega arith;
          long = length-replicate {A = ℕ} belief_limit 0;
          goes = sym (search_begin eqb after 0 n) ∙ found;
          wide = refl;
          cells = ap (λ j. drop j table) (sym (first_at o));
        }

    module _ (table₀ : List ℕ) (i m : ℕ) (met table : List ℕ) (t : Turn table₀ i m met table) where
      abbrev xs : List ℕ
      xs = take m met

      xs_length : length xs ≡ m
      xs_length = length-take-le m met (omega (arith, t.few, t.long))

      met_le : m ≤ length all_rows
      met_le = subst (λ j. j ≤ length all_rows) xs_length (search_length eqb after 0 n eqb_says all_rows xs i t.goes)

      module _ (here : i < m) (k : ℕ) (is-k : k ≡ get_or met i 0) where
        here' : i < length xs
        here' = subst (λ j. i < j) (sym xs_length) here

        at_xs : get_or xs i 0 ≡ k
        at_xs = get_or-take m met i 0 here ∙ sym is-k

        at_all : get_or all_rows i 0 ≡ k
        at_all = search_at eqb after 0 n eqb_says all_rows xs i i 0 t.goes here' ∙ at_xs

        row_in : k ∈ all_rows
        row_in = subst (λ x. x ∈ all_rows) at_all (get_d_in all_rows i 0 (omega (arith, met_le)))

        pub row_lt_count : k < n
        row_lt_count = row_lt k row_in

        goes_on_lem : search_from eqb after 0 n (add_all eqb xs (after k)) (i + 1) ≡ closed all_rows
        goes_on_lem =
            sym (search_turn eqb after 0 n xs i k few here' at_xs) ∙ t.goes
          where
            few : length xs ≤ n
            few = omega (arith, xs_length, met_le, (closed_lists eqb eqb_says after 0 n all_rows found).1)

        -- one more row of cells
        cells_more : (at w : ℕ) (row : List ℕ) → at ≡ i * row_size o → w ≡ row_size o → row ≡ cells_of k
            → put_mid at w table row ≡ flat_map cells_of (take (i + 1) all_rows) ++ drop ((i + 1) * row_size o) table₀
        cells_more at w row is_at is-w is_row =
            let long : length (flat_map cells_of (take i all_rows)) ≡ at =
            length_rows (row_size o) cells_of cells_length (take i all_rows)
            ∙ ap (λ j. j * row_size o) (length-take-le i all_rows (omega (arith, met_le))) ∙ sym is_at in
            let next : at + w ≡ (i + 1) * row_size o = ap₂ ◌+◌ is_at is-w ∙ rows_next o i in
            front_more (flat_map cells_of (take i all_rows)) row table₀ table at w long
            (t.cells ∙ ap (λ j. flat_map cells_of (take i all_rows) ++ drop j table₀) (sym is_at))
            ∙ ap₂ (λ u j. u ++ drop j table₀)
            (ap (λ u. flat_map cells_of (take i all_rows) ++ u) (is_row ∙ ap cells_of (sym at_all)) ∙ sym (flat_more cells_of all_rows i 0 (omega (arith, met_le))))
            next

        -- the table's length stays
        wide_more : (at w : ℕ) (row : List ℕ) → at ≡ i * row_size o → w ≡ row_size o → row ≡ cells_of k → table_size ≤ length table₀
            → length (put_mid at w table row) ≡ length table₀
        wide_more at w row is_at is-w is_row room =
            let enough : i * w + w ≤ table_size = row_room o i w (omega (arith, t.few)) is-w in
            let here_at : at ≡ i * w = is_at ∙ ap (λ z. i * z) (sym is-w) in
            let room_behind : w ≤ length table - at = omega (arith, t.wide) in
            same_len_mid at w table row
            (ap length is_row ∙ cells_length k ∙ sym is-w
            ∙ sym (length-take-le w (drop at table) (subst (λ j. w ≤ j) (sym (length-drop at table)) room_behind)))
            ∙ t.wide

        -- a position where the table stops
        pub turn_stop : (at w : ℕ) (row : List ℕ) → at ≡ i * row_size o → w ≡ row_size o → table_size ≤ length table₀ → get_or finals k 0 ≡ 1 → row ≡ stop_row o
            → (met' table' : List ℕ) (m' : ℕ) → table' ≡ put_mid at w table row → met' ≡ met → m' ≡ m → Turn table₀ (i + 1) m' met' table'
        turn_stop at w row is_at is-w room ends is_row met' table' m' p q r =
            let stops : arena.final k ≡ true = eq-eqb (get_or finals k 0) 1 ends in
            let is : row ≡ cells_of k = is_row ∙ sym (cells_stop k stops (final_rank O arena k (rank_for k) (row_rank k row_in).1 stops)) in
            rw (p, q, r) (
            record {
              read = omega arith;
              few = t.few;
              long = t.long;
              goes = ap (λ l. search_from eqb after 0 n l (i + 1)) (sym (ap (add_all eqb xs) (after_stop k stops) ∙ add_nothing xs)) ∙ goes_on_lem;
              wide = wide_more at w row is_at is-w is room;
              cells = cells_more at w row is_at is-w is;
            }
            )

        -- a position that takes choices
        module _ (ranks : List ℕ) (ranked : take n ranks ≡ ranks_below o n choices observations n moves finals) (on : get_or finals k 0 ≡ 1 → ⊥)
            (answers₀ answers : List ℕ) (is-answers : answers ≡ written (answers_at o moves ranks choices observations k) answers₀) where
          goes_here : arena.final k ≡ false
          goes_here = ne_eqb (get_or finals k 0) 1 on

          answers_are : (s : ℕ) → s < observations → get_or answers s 0 ≡ answer_for k s
          unfolding answers_at
          answers_are s h =
              let (q, b, a, _) = row_chooses k row_in goes_here in
              ap (λ l. get_or l s 0) is-answers ∙ get_d_table (answer_at o moves ranks choices observations k) observations s _ h
              ∙ answer_read n choices observations moves finals ranks P k (row_lt k row_in) o ranked q b a s h

          small : Choices choices observations answers
          small =
              record { small = λ s h. subst (λ c. c < choices) (sym (answers_are s h)) ((row_chooses k row_in goes_here).3 s h) }

          nexts_are : tabulate observations (next_by moves choices k answers) ≡ after k
          unfolding next_of
          nexts_are =
              tabulate_ext observations (next_by moves choices k answers) (λ s. arena.move k (answer_for k s) s)
              (λ s h. ap (λ c. arena.move k c s) (answers_are s h)) ∙ sym (after_goes k goes_here)

          abbrev grown : List ℕ
          grown = rows_with moves choices observations k answers xs

          grown_is : grown ≡ add_all eqb xs (after k)
          unfolding rows_with
          grown_is = ap (add_all eqb xs) nexts_are

          grown_goes : search_from eqb after 0 n grown (i + 1) ≡ closed all_rows
          grown_goes = ap (λ l. search_from eqb after 0 n l (i + 1)) grown_is ∙ goes_on_lem

          grown_few : length grown ≤ belief_limit
          grown_few = omega (arith, search_length eqb after 0 n eqb_says all_rows grown (i + 1) grown_goes, rows_few)

          grown_more : m ≤ length grown
          grown_more =
              let r = added_all eqb eqb_says (after k) xs in
              omega (arith, xs_length, ap length (grown_is ∙ r.extends) ∙ length-append xs r.tail)

          -- what `put_row` asks of them
          pub row_asked : Choices choices observations answers × (length grown ≤ belief_limit)
          row_asked = (small, grown_few)

          -- a next position has the number that it has in the end
          number_is : (s : ℕ) → s < observations
              → index_in eqb (next_by moves choices k answers s) grown ≡ index_in eqb (arena.move k (answer_for k s) s) all_rows
          unfolding next_of
          number_is s h =
              let y : ℕ = arena.move k (answer_for k s) s in
              let in_after : y ∈ after k =
              subst (λ l. y ∈ l) (sym (after_goes k goes_here)) ((in_tabulate observations (λ s. arena.move k (answer_for k s) s) y).1 (s, h, refl)) in
              ap₂ (λ c l. index_in eqb (arena.move k c s) l) (answers_are s h) grown_is
              ∙ search_number eqb after 0 n eqb_says all_rows xs (after k) (i + 1) goes_on_lem y in_after

          row_is : (rank : ℕ) → rank ≡ get_or ranks k 0 → with_rank o rank (row_with o moves choices observations k answers grown) ≡ cells_of k
          row_is rank e =
              ap₂ (with_rank o) (e ∙ own_read n choices observations moves finals ranks P k (row_lt k row_in) o ranked (row_rank k row_in).0)
              (choice_ext o observations _ _ _ _ P.some_observation answers_are number_is)
              ∙ sym (cells_goes k goes_here)

          pub turn_choice : (at w : ℕ) (row new : List ℕ) (rank r : ℕ) → at ≡ i * row_size o → w ≡ row_size o → table_size ≤ length table₀
              → rank ≡ get_or ranks k 0
              → (r ≡ length grown) × ((new ≡ grown ++ drop (length grown) met)
              × (row ≡ with_rank o rank (row_with o moves choices observations k answers grown)))
              → (met' table' : List ℕ) (m' : ℕ) → table' ≡ put_mid at w table row → met' ≡ new → m' ≡ r → Turn table₀ (i + 1) m' met' table'
          turn_choice at w row new rank r is_at is-w room is-rank (is_r, (is_new, is_row)) met' table' m' p q e =
              let is : row ≡ cells_of k = is_row ∙ row_is rank is-rank in
              let is-met : met' ≡ grown ++ drop (length grown) met = q ∙ is_new in
              let is_m : m' ≡ length grown = e ∙ is_r in
              rw (p, is-met, is_m) (
              record {
                read = omega (arith, grown_more);
                few = grown_few;
                long =
                    length-append grown (drop (length grown) met) ∙ ap (λ j. length grown + j) (length-drop (length grown) met)
                    ∙ omega (arith, t.long, grown_few);
                goes =
                    ap (λ l. search_from eqb after 0 n l (i + 1)) (take_at grown (drop (length grown) met) (length grown) refl) ∙ grown_goes;
                wide = wide_more at w row is_at is-w is room;
                cells = cells_more at w row is_at is-w is;
              }
              )

      -- all rows are written
      turn_end : m ≤ i
          → (m ≡ length all_rows) × (table ≡ flat_map cells_of all_rows ++ drop (length (flat_map cells_of all_rows)) table₀)
      turn_end past =
          let done : i ≡ length xs = omega (arith, t.read, xs_length) in
          let few : length xs ≤ n = omega (arith, xs_length, met_le, (closed_lists eqb eqb_says after 0 n all_rows found).1) in
          let e : xs ≡ all_rows = search_found eqb after 0 n all_rows xs i few done t.goes in
          let all : i ≡ length all_rows = done ∙ ap length e in
          let whole : flat_map cells_of (take i all_rows) ≡ flat_map cells_of all_rows = ap (flat_map cells_of) (take_all i all_rows (omega arith)) in
          let cut : i * row_size o ≡ length (flat_map cells_of all_rows) =
          ap (λ j. j * row_size o) all ∙ sym (length_rows (row_size o) cells_of cells_length all_rows) in
          (sym xs_length ∙ ap length e, t.cells ∙ ap₂ (λ l j. l ++ drop j table₀) whole cut)

      pub turn_answer : m ≤ i
          → (m ≡ length (rows o arena eqb choices observations n))
          × (table ≡ table_cells o arena eqb choices observations n ++ drop (length (table_cells o arena eqb choices observations n)) table₀)
      unfolding all_rows cells_of
      turn_answer past = turn_end past
