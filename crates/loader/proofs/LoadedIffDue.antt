-- What the loading call answers is what is due, and what is due is what it answers.
-- Assumes nothing.
use Rattle.tables.specs.Outcome.{table_with}
use Rattle.tables.specs.declared.shape.Table.{Table}
use Rattle.lines.specs.declared.refusal.Refusal.{Refusal}
use Rattle.std.specs.Prelude.{Err, Result, Ok, Option, Some, None}
use Prim.Native.Nat.{ℕ, suc, ◌+◌, ◌*◌, ◌≤◌}
use native.Mathlib.Decide.{dec_le}
use native.Mathlib.Omega.{arith}
use mathlib.Core.Path.{◌≡◌, refl, sym, ap, ap₂, ◌∙◌, subst}
use mathlib.Core.Logic.{◌↔◌, inl, inr}
use mathlib.Core.List.{List, [], ◌∷◌, ◌++◌, append_assoc}
use lib.Dec.{ltb}
use lib.ListN.{length, drop}
use lib.Seq.{take_at}
use borrow.Author.Tests.{lt-ltb, le-ltb, ltb-true, ltb-false, eq-eqb}
use Rattle.basics.specs.Lists.{written}
use Rattle.basics.specs.Order.{order_number}
use Rattle.basics.specs.declared.order.Order.{Order}
use Rattle.basics.proofs.Booleans.{test}
use Rattle.basics.proofs.ListsLaws.{written_rest}
use Rattle.basics.proofs.OrderLaws.{one_order}
use Rattle.lines.specs.declared.refusal.Refusal.TheVariants.{BadText}
use Rattle.lines.specs.Refusal.{Told, values, refused}
use Rattle.lines.proofs.RefusalLaws.{told_apart, one_place as told_place}
use Rattle.play.specs.Cells.{row_size, stop_cell, table_size, first_cell}
use Rattle.tables.specs.declared.shape.Shape.{Shape}
use Rattle.loader.specs.Candidate.{shape_in, worst_in, cells_in, print_in}
use Rattle.loader.specs.Difference.{difference}
use Rattle.loader.specs.LoadedAs.{fault_in, loaded_at, cells_at, loaded_by, cells_by, table_after, told_loaded, used_rows, IsPrint, TextOf, TableOf}
use Rattle.loader.specs.LoadedAs.{Begins, FaultAt, bad_line, bad_worst, bad_rank, LoadedAs, short_memory, bad_text, table}
use Rattle.loader.proofs.CandidateLaws.{cells_length}
use Rattle.loader.proofs.CandidatePrint.{candidate_shaped}
use Rattle.loader.proofs.DifferenceLaws.{Common, first_difference, same_text}
use Rattle.loader.proofs.SameRows.{Said, table_said, said_table}
use Rattle.loader.proofs.WholeLines.{lines_fewer}
use Rattle.loader.proofs.ReadBack.{begins_so, none_told, worst_is, shape_is, cells_are}
use Rattle.loader.proofs.FaultLaws.{Ranks, all_right, worst_wrong, row_wrong, ranks_found, fault_line, fault_rank, text_same, fault_of}

same_table : (t u : Table) → ◌≡◌ {A = Result Table Refusal} (Ok t) (Ok u) → t ≡ u
same_table t u e = cc

-- the answer and the cells to write, by the line of the first fault
abbrev answer : List ℕ → Option ℕ → Result Table Refusal
answer s d = loaded_at d (shape_in s) (worst_in (shape_in s).rows s)

abbrev to_write : List ℕ → Option ℕ → List ℕ
to_write s d = cells_at d (cells_in (shape_in s) s)

module _ (s : List ℕ) where
  abbrev cells' : List ℕ
  cells' = cells_in (shape_in s) s

  abbrev worst' : ℕ
  worst' = worst_in (shape_in s).rows s

  -- ---- the text of a table

  -- what is compared with is itself one
  candidate : TextOf (print_in s) cells' (shape_in s) worst'
  unfolding print_in
  candidate = record { shaped = candidate_shaped s; text = refl }

  module _ (e : difference 1 s (print_in s) ≡ None) where
    text_said : TextOf s cells' (shape_in s) worst'
    text_said = subst (λ x. TextOf x cells' (shape_in s) worst') (sym (same_text 1 s (print_in s) e)) candidate

    all_said : Said s (shape_in s) worst' cells'
    all_said =
        record {
          is = text_said;
          exact = cells_length (shape_in s) s;
          untold = λ stop. none_told s (shape_in s) worst' cells' text_said
              (λ i h. eq-eqb (first_cell (shape_in s).order cells' i) stop_cell (stop i h));
        }

  -- ---- a text that is none

  -- lines that begin the text of some table are common to the text and what it is compared with
  begins_common : (j : ℕ) → Begins j s → Common j s (print_in s)
  begins_common j b =
      let (t, shape, worst, is) = b.table in
      let (x, q) = begins_so t shape worst is.shaped j b.front b.rest b.other s b.lines b.text is.text in
      (b.front, b.rest, x, b.lines, b.text, q)

  common_begins : (j : ℕ) → Common j s (print_in s) → Begins j s
  common_begins j (u, v, w, ls, es, et) =
      record {
        front = u;
        lines = ls;
        rest = v;
        text = es;
        other = w;
        table = (cells', shape_in s, worst', subst (λ x. TextOf x cells' (shape_in s) worst') et candidate);
      }

  -- fewer lines are common too
  common_fewer : (i j : ℕ) → i ≤ j → Common j s (print_in s) → Common i s (print_in s)
  common_fewer i j h (u, v, w, ls, es, et) =
      let (x, y, ks, e) = lines_fewer i j h u ls in
      (x, y ++ v, y ++ w, ks, es ∙ ap (λ a. a ++ v) e ∙ append_assoc x y v, et ∙ ap (λ a. a ++ w) e ∙ append_assoc x y w)

  module _ (m : ℕ) (e : difference 1 s (print_in s) ≡ Some m) where
    most : (k : ℕ) → (Common (suc k) s (print_in s) → ⊥) → (j : ℕ) → Begins j s → j ≤ k
    most k last j b =
        elim (dec_le j k) [
          | yes l ↦ l
          | no l ↦ absurd (last (common_fewer (suc k) j (omega arith) (begins_common j b)))
        ]

    -- the lines before it begin the text of some table, and no more do
    line_found : (good : ℕ) × (suc good ≡ m) × Begins good s × ((j : ℕ) → Begins j s → j ≤ good)
    line_found =
        let (k, line, c, last) = first_difference 1 s (print_in s) m e in
        (k, omega arith, common_begins k c, most k last)

    line_fault : FaultAt s m
    line_fault =
        let (good, is, begins, greatest) = line_found in
        subst (FaultAt s) is
        (bad_line (λ (t, shape, worst, is). let z : None ≡ Some m = sym (text_same s t shape worst is) ∙ e in cc) good begins greatest)

  -- ---- the first fault

  -- what is due by its line: the table where there is none
  abbrev Due : Option ℕ → Type 0
  Due None = TableOf s (shape_in s) worst' cells'
  Due (Some place) = FaultAt s place

  ranks_due : difference 1 s (print_in s) ≡ None → (n : Option ℕ) → Ranks cells' (shape_in s) worst' n → Due n
  ranks_due z n (all_right e f) =
      said_table s (shape_in s) worst' cells' (all_said z) (record { shaped = candidate_shaped s; first = e; ranked = f })
  ranks_due z n (worst_wrong m) = bad_worst cells' (shape_in s) worst' (text_said z) m
  ranks_due z n (row_wrong e i h m before) =
      bad_rank cells' (shape_in s) worst' (text_said z) e i h m before

  fault_due : (d : Option ℕ) → fault_in s ≡ d → Due d
  fault_due d q = subst Due q (go (difference 1 s (print_in s)) refl)
    where
      go : (k : Option ℕ) → difference 1 s (print_in s) ≡ k → Due (fault_in s)
      go None e = subst Due (sym (fault_rank s e)) (ranks_due e _ (ranks_found cells' (shape_in s) worst'))
      go (Some m) e = subst Due (sym (fault_line s m e)) (line_fault m e)

  no_fault : IsPrint s → fault_in s ≡ None
  no_fault (t, shape, worst, p, e) = fault_of s t shape worst (record { shaped = p.shaped; text = e }) None (all_right p.first p.ranked)

  table_good : (shape : Shape) (worst : ℕ) (cells : List ℕ) → TableOf s shape worst cells → fault_in s ≡ None
  table_good shape worst cells is = no_fault (cells, shape, worst, is.printable, is.prints)

  fault_is : (place : ℕ) → FaultAt s place → fault_in s ≡ Some place
  fault_is place (bad_line untold good begins greatest) = go (difference 1 s (print_in s)) refl
    where
      go : (k : Option ℕ) → difference 1 s (print_in s) ≡ k → fault_in s ≡ Some (suc good)
      go None e = absurd (untold (cells', shape_in s, worst', text_said e))
      go (Some m) e =
          let (k, line, here, most) = line_found m e in
          let same : m ≡ suc good = omega (arith, line, most good begins, greatest k here) in
          fault_line s m e ∙ ap Some same
  fault_is place (bad_worst t shape worst is m) = fault_of s t shape worst is (Some 1) (worst_wrong m)
  fault_is place (bad_rank t shape worst is e i h m before) = fault_of s t shape worst is (Some (2 + i)) (row_wrong e i h m before)

  -- ---- the answer

  module _ (room : ℕ) where
    at_due : table_size ≤ room → (d : Option ℕ) → fault_in s ≡ d → LoadedAs room s (told_loaded (answer s d)) (to_write s d)
    at_due h None e = table h (shape_in s) worst' cells' (fault_due None e)
    at_due h (Some m) e = bad_text h m (fault_due (Some m) e)

    pub load_due : LoadedAs room s (told_loaded (loaded_by room s)) (cells_by room s)
    unfolding loaded_by cells_by
    load_due =
        elim (test (ltb room table_size)) [
          | inl e ↦ rw e (short_memory (ltb-true room table_size e))
          | inr e ↦ rw e (at_due (ltb-false room table_size e) (fault_in s) refl)
        ]

    answered : (a : Told) (cells : List ℕ) → LoadedAs room s a cells → (told_loaded (loaded_by room s) ≡ a) × (cells_by room s ≡ cells)
    unfolding loaded_by cells_by
    answered a cells (short_memory h) = rw (lt-ltb room table_size h) (refl, refl)
    answered a cells (bad_text h place f) = rw (le-ltb room table_size h, fault_is place f) (refl, refl)
    answered a c (table h shape worst cells is) =
        let said = table_said s shape worst cells is in
        rw (le-ltb room table_size h, table_good shape worst cells is) (
          ap₂ (λ (x : Shape) r. told_loaded (Ok (table_with x r))) (shape_is s shape worst cells said) (worst_is s shape worst cells said),
          cells_are s shape worst cells said,
        )

    pub load_iff : (a : Told) (cells : List ℕ) → ((told_loaded (loaded_by room s) ≡ a) × (cells_by room s ≡ cells)) ↔ LoadedAs room s a cells
    load_iff a cells = (
      λ e. subst (LoadedAs room s a) e.1 (subst (λ b. LoadedAs room s b (cells_by room s)) e.0 load_due),
      answered a cells,
    )

    -- in enough room: a table is loaded just where the text is its print
    module _ (h : table_size ≤ room) (shape : Shape) (worst : ℕ) (cells : List ℕ) where
      loads : TableOf s shape worst cells → (loaded_by room s ≡ Ok (table_with shape worst)) × (cells_by room s ≡ cells)
      unfolding loaded_by cells_by
      loads is =
          let said = table_said s shape worst cells is in
          rw (le-ltb room table_size h, table_good shape worst cells is)
          (ap₂ (λ x r. Ok (table_with x r)) (shape_is s shape worst cells said) (worst_is s shape worst cells said), cells_are s shape worst cells said)

      is_loaded : (loaded_by room s ≡ Ok (table_with shape worst)) × (cells_by room s ≡ cells) → TableOf s shape worst cells
      unfolding loaded_by cells_by
      is_loaded e = go (fault_in s) refl (rw (le-ltb room table_size h) at e)
        where
          go : (d : Option ℕ) → fault_in s ≡ d → (answer s (fault_in s) ≡ Ok (table_with shape worst)) × (to_write s (fault_in s) ≡ cells) → TableOf s shape worst cells
          go None z q =
              let (a, c) : (Ok (table_with (shape_in s) worst') ≡ Ok (table_with shape worst)) × (cells' ≡ cells) = rw z at q in
              let t = same_table (table_with (shape_in s) worst') (table_with shape worst) a in
              let x : shape_in s ≡ shape = ap (λ (t : Table). t.shape) t in
              let y : worst' ≡ worst = ap (λ (t : Table). t.worst_case) t in
              subst (λ w. TableOf s shape w cells) y
              (subst (λ b. TableOf s shape worst' b) c (subst (λ b. TableOf s b worst' cells') x (fault_due None z)))
          go (Some m) z q = let (a, c) : (Err (BadText m) ≡ Ok (table_with shape worst)) × ([] ≡ cells) = rw z at q in told_apart (ap told_loaded a)

      pub loaded_iff : ((loaded_by room s ≡ Ok (table_with shape worst)) × (cells_by room s ≡ cells)) ↔ TableOf s shape worst cells
      loaded_iff = (is_loaded, loads)

    -- a text is accepted just where it is a print, and is 17 at just the line that is at fault
    module _ (h : table_size ≤ room) where
      told_at : told_loaded (loaded_by room s) ≡ told_loaded (answer s (fault_in s))
      unfolding loaded_by
      told_at = rw (le-ltb room table_size h) refl

      pub accepted_iff : ((shape : Shape) × (worst : ℕ) × (loaded_by room s ≡ Ok (table_with shape worst))) ↔ IsPrint s
      unfolding loaded_by
      accepted_iff = (
        λ (shape, worst, e). let is = (loaded_iff h shape worst (cells_by room s)).0 (e, refl) in (cells_by room s, shape, worst, is.printable, is.prints),
        λ p. (shape_in s, worst', rw (le-ltb room table_size h, no_fault p) refl),
      )

      pub fault_iff : (place : ℕ) → (told_loaded (loaded_by room s) ≡ refused 17 place) ↔ FaultAt s place
      fault_iff place = (to, λ f. (answered (refused 17 place) [] (bad_text h place f)).0)
        where
          to : told_loaded (loaded_by room s) ≡ refused 17 place → FaultAt s place
          to e = go (fault_in s) refl (sym told_at ∙ e)
            where
              go : (d : Option ℕ) → fault_in s ≡ d → told_loaded (answer s (fault_in s)) ≡ refused 17 place → FaultAt s place
              go None z q = told_apart (sym (rw z at q))
              go (Some m) z q = subst (FaultAt s) (told_place (rw z at q)) (fault_due (Some m) z)

-- there is only one table
pub one_table : (s : List ℕ) (a b : Shape) (v w : ℕ) (c d : List ℕ) → TableOf s a v c → TableOf s b w d → (a ≡ b) × (v ≡ w) × (c ≡ d)
one_table s a b v w c d x y =
    let l = table_said s a v c x in
    let r = table_said s b w d y in (
      sym (shape_is s a v c l) ∙ shape_is s b w d r,
      sym (worst_is s a v c l) ∙ worst_is s b w d r,
      sym (cells_are s a v c l) ∙ cells_are s b w d r,
    )

-- ---- what is left in the table

-- cells that are an answer's own
abbrev OwnCells : Told → List ℕ → Type 0
OwnCells (values l) cells = (n observed r : ℕ) (o : Order) → l ≡ n ∷ observed ∷ order_number o ∷ r ∷ [] → length cells ≡ n * row_size o
OwnCells (refused number place) cells = cells ≡ []

own_cells : (room : ℕ) (s : List ℕ) (a : Told) (cells : List ℕ) → LoadedAs room s a cells → OwnCells a cells
own_cells room s a cells (short_memory h) = refl
own_cells room s a cells (bad_text h place f) = refl
own_cells room s a c (table h shape worst cells is) =
    λ n observed r o e.
    let is_n : shape.rows ≡ n = cc in
    let is_o = one_order shape.order o cc in
    rw (← is_n, ← is_o) is.exact

module _ (s t : List ℕ) where
  abbrev room : ℕ
  room = length t

  -- what stands at the front of the table
  used_at : (d : Option ℕ) → used_rows (answer s d) (written (to_write s d) t) ≡ to_write s d
  used_at None =
      let cells = cells_in (shape_in s) s in
      take_at cells (drop (length cells) t) ((shape_in s).rows * row_size (shape_in s).order) (cells_length (shape_in s) s)
  used_at (Some m) = refl

  load_used : used_rows (loaded_by room s) (table_after s t) ≡ cells_by room s
  unfolding loaded_by cells_by
  load_used =
      elim (test (ltb room table_size)) [
        | inl e ↦ rw e refl
        | inr e ↦ rw e (used_at (fault_in s))
      ]

  pub load_told : (r : Result Table Refusal) (after : List ℕ) → (r ≡ loaded_by room s) × (after ≡ table_after s t)
      → LoadedAs room s (told_loaded r) (used_rows r after)
  load_told r after e = rw (e.0, e.1, load_used) (load_due s room)

  own : (a : Told) → told_loaded (loaded_by room s) ≡ a → OwnCells a (cells_by room s)
  own a e = subst (λ b. OwnCells b (cells_by room s)) e (own_cells room s (told_loaded (loaded_by room s)) (cells_by room s) (load_due s room))

  -- a refusal leaves the table as it was, and an answer all behind its rows
  pub table_kept : (number place : ℕ) → told_loaded (loaded_by room s) ≡ refused number place → table_after s t ≡ t
  table_kept number place e = ap (λ c. written c t) (own (refused number place) e)

  pub table_rest : (n observed r : ℕ) (o : Order) → told_loaded (loaded_by room s) ≡ values (n ∷ observed ∷ order_number o ∷ r ∷ [])
      → drop (n * row_size o) (table_after s t) ≡ drop (n * row_size o) t
  table_rest n observed r o e =
      written_rest (cells_by room s) t (n * row_size o) (own (values (n ∷ observed ∷ order_number o ∷ r ∷ [])) e n observed r o refl)
