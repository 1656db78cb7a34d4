-- A table read as a strategy is the strategy whose rows it holds.
-- Assumes nothing.
use Prim.Native.Nat.{ℕ, suc, ◌≤◌, ◌<◌}
use native.Mathlib.Omega.{arith}
use mathlib.Core.Path.{◌≡◌, sym, ap, ◌∙◌, subst}
use mathlib.Core.Logic.{inl, inr}
use mathlib.Core.Bool.{Bool, true, false}
use mathlib.Core.List.{List, [], ◌∷◌, flat_map}
use lib.Dec.{eqb}
use lib.ListN.{length, get_or}
use borrow.Author.Tests.{eqb-true}
use Rattle.basics.specs.Says.{Says}
use Rattle.basics.specs.Member.{◌∈◌}
use Rattle.basics.specs.Reach.{closed, index_in, reachable}
use Rattle.basics.proofs.EqualRows.{length_rows, get_d_rows}
use Rattle.basics.proofs.MemberLaws.{get_d_in}
use Rattle.play.specs.Limits.{side_limit}
use Rattle.play.specs.Cells.{choice_at, next_at, rank_at, row_size, stop_cell, first_of, cell, first_cell, is_stop, choice_cell, next_cell, rank_cell}
use Rattle.play.specs.Cells.{Blank, stop_row, choice_row}
use Rattle.basics.specs.declared.order.Order.{Order}
use Rattle.basics.specs.declared.order.Order.TheVariants.{Set, Read}
use Rattle.play.specs.Game.{AllBelow}
use Rattle.play.specs.Rank.{Arena, RankOf, rank_from, best_answer, best}
use Rattle.play.specs.Table.{read_from, table_strategy, Laid, list_of, followers, unranked, row_of, table_cells}
use Rattle.basics.proofs.Booleans.{test}
use Rattle.basics.proofs.BoundedLaws.{first_le}
use Rattle.play.proofs.RankedRows.{some_row, first_row, next_place}
use Rattle.play.proofs.StepOrder.{order_of}
use Rattle.play.proofs.RankLaws.{rank_searched, final_rank}
use Rattle.play.proofs.SmallestChoice.{RankedBelow, best_leads, best_chosen}
use Rattle.play.proofs.SameStrategy.{Alike, answers_alike}
use Rattle.play.proofs.CellsLaws.{first_before, choice_before, next_before, before_inside, rank_inside, rank_length, rank_there, rank_other}
use Rattle.play.proofs.CellsLaws.{stop_length, stop_first, stop_rest, blank_of, blank_in, first_same}
use Rattle.play.proofs.CellsLaws.{choice_length, choice_first, choice_at_lem, choice_next}

-- ---- one row

module _ (o : Order) (A : Arena) (same : A.K → A.K → Bool) (choices observations n : ℕ) (ks : List A.K) (k : A.K) where
  pub row_stop : A.final k ≡ true → unranked o A same choices observations n ks k ≡ stop_row o
  row_stop t = rw (t, unranked)

  pub row_goes : A.final k ≡ false
      → let answer = best_answer o A choices observations n k in unranked o A same choices observations n ks k
      ≡ choice_row o observations answer (λ s. index_in same (A.move k (answer s) s) ks)
  row_goes f = rw (f, unranked)

  -- every row has as many cells
  unranked_width : length (unranked o A same choices observations n ks k) ≡ row_size o
  unranked_width =
      elim (test (A.final k)) [ inl t ↦ ap length (row_stop t) ∙ stop_length o | inr f ↦ ap length (row_goes f) ∙ choice_length observations _ _ o ]

  pub row_width : length (row_of o A same choices observations n ks k) ≡ row_size o
  row_width = rank_length o _ (unranked o A same choices observations n ks k) ∙ unranked_width

-- the first cell of a row that goes on is not that of a stop row
goes_first : (o : Order) (A : Arena) (choices observations n : ℕ) → choices < stop_cell → (k : A.K)
    → ¬ (first_of o (best_answer o A choices observations n k) ≡ stop_cell)
goes_first Set A choices observations n few k e =
    let b : best_answer Set A choices observations n k 0 ≤ choices = first_le _ choices in
    absurd (omega arith)
goes_first Read A choices observations n few k e = absurd (omega arith)

-- ---- the table

module _ (o : Order) (A : Arena) (same : A.K → A.K → Bool) (says : (a b : A.K) → Says (same a b) (a ≡ b)) (choices observations n : ℕ)
    (some : 0 < observations) (few_choices : choices < stop_cell) (few_observations : observations ≤ side_limit)
    (ks : List A.K) (listed : reachable same (followers o A same choices observations n) A.start n ≡ closed ks) where
  abbrev table : List ℕ
  table = flat_map (row_of o A same choices observations n ks) ks

  abbrev answer : A.K → ℕ → ℕ
  answer = best_answer o A choices observations n

  abbrev row : A.K → List ℕ
  row k = row_of o A same choices observations n ks k

  abbrev pub at : ℕ → A.K
  at i = get_or ks i A.start

  -- the row of a position that is not final
  abbrev goes : A.K → List ℕ
  goes k = choice_row o observations (answer k) (λ s. index_in same (A.move k (answer k s) s) ks)

  cell_is : (i j : ℕ) → i < length ks → j < row_size o → cell o table i j ≡ get_or (row (at i)) j 0
  cell_is i j h b = get_d_rows (row_size o) row (row_width o A same choices observations n ks) ks A.start i j h b

  -- the last one is the position's rank, the others are those that say what is done
  pub rank_cell_lem : (i : ℕ) → i < length ks → rank_cell o table i ≡ rank_from o A choices observations n (at i)
  rank_cell_lem i h =
      cell_is i (rank_at o) h (rank_inside o)
      ∙ rank_there o _ (unranked o A same choices observations n ks (at i)) (unranked_width o A same choices observations n ks (at i))

  -- row 0's is that of the start
  pub first_rank_lem : rank_cell o table 0 ≡ rank_from o A choices observations n A.start
  first_rank_lem =
      rank_cell_lem 0 (some_row A same says answer observations n ks listed)
      ∙ ap (rank_from o A choices observations n) (first_row A same says answer observations n ks listed)

  cell_before : (i j : ℕ) → i < length ks → j < rank_at o → cell o table i j ≡ get_or (unranked o A same choices observations n ks (at i)) j 0
  cell_before i j h b = cell_is i j h (before_inside o j b) ∙ rank_other o _ (unranked o A same choices observations n ks (at i)) j b

  -- ---- where it stops

  stop_cell_lem : (i j : ℕ) → i < length ks → A.final (at i) ≡ true → j < rank_at o → cell o table i j ≡ get_or (stop_row o) j 0
  stop_cell_lem i j h t b = cell_before i j h b ∙ ap (λ (r : List ℕ). get_or r j 0) (row_stop o A same choices observations n ks (at i) t)

  pub stop_row_lem : (i : ℕ) → i < length ks → A.final (at i) ≡ true → is_stop o table i ≡ true
  stop_row_lem i h t = ap (λ (c : ℕ). eqb c stop_cell) (stop_cell_lem i 0 h t (first_before o) ∙ stop_first o)

  pub stop_blank : (i : ℕ) → i < length ks → A.final (at i) ≡ true → (s : ℕ) → s < side_limit → Blank o table i s
  stop_blank i h t s b = blank_of o table i s (λ j l. stop_cell_lem i (suc j) h t l ∙ stop_rest o j) b

  -- ---- where it goes on

  goes_cell : (i j : ℕ) → i < length ks → A.final (at i) ≡ false → j < rank_at o → cell o table i j ≡ get_or (goes (at i)) j 0
  goes_cell i j h f b = cell_before i j h b ∙ ap (λ (r : List ℕ). get_or r j 0) (row_goes o A same choices observations n ks (at i) f)

  first_cell_lem : (i : ℕ) → i < length ks → A.final (at i) ≡ false → first_cell o table i ≡ first_of o (answer (at i))
  first_cell_lem i h f = goes_cell i 0 h f (first_before o) ∙ choice_first observations _ _ o

  pub choice_cell_lem : (i : ℕ) → i < length ks → A.final (at i) ≡ false → (s : ℕ) → s < observations → choice_cell o table i s ≡ answer (at i) s
  choice_cell_lem i h f s b =
      goes_cell i (choice_at o s) h f (choice_before o s (omega arith)) ∙ choice_at_lem observations _ _ o s (omega arith) b
      ∙ best_chosen o A choices observations n (at i) s

  goes_row : (i : ℕ) → i < length ks → A.final (at i) ≡ false → is_stop o table i ≡ false
  goes_row i h f =
      elim (test (is_stop o table i)) [
        | inl t ↦ absurd (goes_first o A choices observations n few_choices (at i) (sym (first_cell_lem i h f) ∙ eqb-true (first_cell o table i) stop_cell t))
        | inr g ↦ g
      ]

  next_cell_lem : (i : ℕ) → i < length ks → A.final (at i) ≡ false → (s : ℕ) → s < observations
      → next_cell o table i s ≡ index_in same (A.move (at i) (answer (at i) s) s) ks
  next_cell_lem i h f s b = goes_cell i (next_at o s) h f (next_before o s (omega arith)) ∙ choice_next observations _ _ o s (omega arith) b

  pub unused_blank : (i : ℕ) → i < length ks → A.final (at i) ≡ false → (s : ℕ) → observations ≤ s → s < side_limit → Blank o table i s
  unused_blank i h f s e b = blank_in o observations (answer (at i)) _ table i (λ j l. goes_cell i j h f l) s b e

  -- the row that an observation leads to is that of the next position
  pub next_row : (i : ℕ) → i < length ks → A.final (at i) ≡ false → (s : ℕ) → s < observations
      → (next_cell o table i s < length ks) × (at (next_cell o table i s) ≡ A.move (at i) (answer (at i) s) s)
  next_row i h f s b =
      let (l, e) = next_place A same says answer observations n ks listed i h f s b in
      let q = next_cell_lem i h f s b in
      (subst (λ (j : ℕ). j < length ks) (sym q) l, ap at q ∙ e)

  -- under `Set` the first cell is the choice for every observation
  pub first_choice : (i : ℕ) → i < length ks → A.final (at i) ≡ false → first_cell o table i ≡ first_of o (choice_cell o table i)
  first_choice i h f = first_cell_lem i h f ∙ first_same o (answer (at i)) (choice_cell o table i) (sym (choice_cell_lem i h f 0 some))

  -- where ranks are below the row count: that of a row, and that of each next row
  module _ (ranked : (k : A.K) → k ∈ ks → (q : ℕ) × (q < length ks) × RankOf o A choices observations k q) (fits : length ks ≤ n) where
    rank_is : (i : ℕ) → i < length ks → (q : ℕ) → q < length ks → RankOf o A choices observations (at i) q → rank_cell o table i ≡ q
    rank_is i h q b a = rank_cell_lem i h ∙ rank_searched (order_of o choices observations) A n q (at i) (omega arith) a

    row_rank : (i : ℕ) → i < length ks → (rank_cell o table i < length ks) × RankOf o A choices observations (at i) (rank_cell o table i)
    row_rank i h =
        let (q, b, a) = ranked (at i) (get_d_in ks i A.start h) in
        subst (λ (r : ℕ). (r < length ks) × RankOf o A choices observations (at i) r) (sym (rank_is i h q b a)) (b, a)

    -- a final position has rank 0
    stop_rank : (i : ℕ) → i < length ks → A.final (at i) ≡ true → rank_cell o table i ≡ 0
    stop_rank i h t = final_rank (order_of o choices observations) A (at i) (rank_cell o table i) (row_rank i h).1 t

    module _ (i : ℕ) (h : i < length ks) (f : A.final (at i) ≡ false) (s : ℕ) (b : s < observations) where
      leads : (answer (at i) s < choices) × RankedBelow o A choices observations (rank_cell o table i) (A.move (at i) (answer (at i) s) s)
      leads = let (c, a) = row_rank i h in best_leads o A choices observations n (at i) (rank_cell o table i) (omega arith) f a s b

      next_lower : rank_cell o table (next_cell o table i s) < rank_cell o table i
      next_lower =
          let (q, l, a) = leads.1 in
          let (m, e) = next_row i h f s b in
          let j = next_cell o table i s in
          subst (λ (r : ℕ). r < rank_cell o table i)
          (sym (rank_is j m q (omega (arith, (row_rank i h).0)) (subst (λ (k : A.K). RankOf o A choices observations k q) (sym e) a))) l

    pub table_laid : Laid o choices observations (length ks) table
    table_laid =
        record {
          long = length_rows (row_size o) row (row_width o A same choices observations n ks) ks;
          row = λ i h.
              elim (test (A.final (at i))) [
                | inl t ↦ inl (record { stop = stop_row_lem i h t; rank = stop_rank i h t; unused = stop_blank i h t })
                | inr f ↦
                    inr (record {
                      first = first_choice i h f;
                      choice = λ s b. subst (λ (c : ℕ). c < choices) (sym (choice_cell_lem i h f s b)) (leads i h f s b).0;
                      next = λ s b. (next_row i h f s b).0;
                      lower = next_lower i h f;
                      unused = unused_blank i h f;
                    })
              ];
          ranked = λ i h. (row_rank i h).0;
        }

  table_reads : (h : List ℕ) → AllBelow observations h → (i : ℕ) → i < length ks
      → Alike observations (read_from o table i h) (best o A choices observations n (at i) h)
  table_reads [] v i b =
      elim (test (A.final (at i))) [
        | inl t ↦ rw (stop_row_lem i b t, read_from, t, best) tt
        | inr f ↦
            rw (goes_row i b f, read_from, f, best)
            (answers_alike o observations (choice_cell o table i) (answer (at i)) some (λ s sb. choice_cell_lem i b f s sb))
      ]
  table_reads (s ∷ h) v i b =
      elim (test (A.final (at i))) [
        | inl t ↦ rw (stop_row_lem i b t, read_from, t, best) tt
        | inr f ↦
            let (c, e) = next_row i b f s v.0 in
            rw (goes_row i b f, read_from, f, best)
            (subst (λ (k : A.K). Alike observations (read_from o table (next_cell o table i s) h) (best o A choices observations n k h)) e
            (table_reads h v.1 (next_cell o table i s) c))
      ]

  -- the table, read from its first row, answers as the strategy of the best answers
  pub table_is_best : (h : List ℕ) → AllBelow observations h
      → Alike observations (table_strategy o (table_cells o A same choices observations n) h) (best o A choices observations n A.start h)
  table_is_best h v =
      subst (λ l. Alike observations (table_strategy o (flat_map (row_of o A same choices observations n l) l) h) (best o A choices observations n A.start h))
      (sym (ap list_of listed))
      (subst (λ (k : A.K). Alike observations (read_from o table 0 h) (best o A choices observations n k h))
      (first_row A same says answer observations n ks listed)
      (table_reads h v 0 (some_row A same says answer observations n ks listed)))
