-- The cells of a candidate, and that it is a table but for its ranks, whatever the text is.
-- Assumes nothing.
use Prim.Native.Nat.{ℕ, zero, suc, ◌+◌, ◌-◌, ◌^◌, ◌≤◌, ◌<◌}
use native.Mathlib.Nat.{le_refl}
use native.Mathlib.Omega.{arith}
use mathlib.Core.Path.{◌≡◌, sym, ap, ◌∙◌, subst}
use mathlib.Core.Logic.{inl, inr}
use mathlib.Core.Bool.{true, false}
use mathlib.Core.List.{List}
use lib.Dec.{eqb, ltb}
use lib.ListN.{length, get_or}
use borrow.Author.Tests.{eqb-false}
use Rattle.basics.specs.Bounded.{first_that}
use Rattle.basics.specs.Limits.{kind_limit}
use Rattle.basics.specs.Lists.{below}
use Rattle.basics.specs.Numbers.{number_below}
use Rattle.basics.specs.Pieces.{field_at, line_at}
use Rattle.basics.specs.declared.order.Order.{Order}
use Rattle.basics.specs.declared.order.Order.TheVariants.{Set, Read}
use Rattle.basics.proofs.Booleans.{cond_elim, test}
use Rattle.basics.proofs.EqualRows.{get_d_rows}
use Rattle.basics.proofs.ListsLaws.{length_tabulate, get_d_tabulate}
use Rattle.basics.proofs.NumbersLaws.{below_lt}
use Rattle.play.specs.Limits.{belief_limit, side_limit}
use Rattle.play.specs.Cells.{choice_at, next_at, rank_at, row_size, stop_cell, cell_limit, cell, first_cell, next_cell, rank_cell}
use Rattle.play.proofs.CellsLaws.{choice_before, next_before, first_before, before_inside, first_inside, rank_inside}
use Rattle.printer.specs.Text.{shown_from, shown_count}
use Rattle.wellformed.specs.WellFormed.{first_limit, IsFirst, Used, GoesOn, FormedRow, Unused, ShapedRow, Shaped}
use Rattle.wellformed.proofs.WellFormedLaws.{side_le, first_goes}
use Rattle.tables.specs.declared.shape.Shape.{Shape}
use Rattle.loader.specs.Candidate.{says_stop, rank_in, limit_at, move_in, row_in, observed_in, rows_in, worst_in, shape_in, cells_in, goes_on}
use Rattle.loader.proofs.ShownCells.{Shown, choice_shown, next_shown, OwnAt, own_before, own_some, own_hidden, blank_by}
use Rattle.loader.proofs.ShownCells.{choice_limit, next_limit, limit_some}
use Rattle.loader.proofs.CandidateLaws.{in_cell, move_shown, move_hidden, row_length, row_rank, row_stop, row_rest, row_move, cells_length}

-- ---- its cells

pub cell_is : (shape : Shape) (s : List ℕ) (i : ℕ) → i < shape.rows → (k : ℕ) → k < row_size shape.order
    → cell shape.order (cells_in shape s) i k ≡ get_or (row_in shape (line_at (suc i) s)) k 0
unfolding cells_in
cell_is shape s i h k b =
    get_d_rows (row_size shape.order) row_at (λ i. row_length shape (line_at (suc i) s)) (below shape.rows) 0 i k
    (rw (length_tabulate shape.rows (λ i. i)) h) b
    ∙ ap (λ j. get_or (row_at j) k 0) (get_d_tabulate shape.rows (λ i. i) i 0 h)
  where
    row_at : ℕ → List ℕ
    row_at i = row_in shape (line_at (suc i) s)

-- ---- it is a table but for its ranks

pub observed_le : (o : Order) (k : ℕ) (l : List ℕ) → observed_in o k l ≤ k
unfolding observed_in
observed_le o zero l = omega arith
observed_le o (suc k) l =
    cond_elim (λ n. n ≤ suc k) (ltb 0 (length (field_at (2 + shown_count o (2 ^ suc k)) l))) (suc k) (observed_in o k l) (λ e. omega arith)
    (λ e. omega (arith, observed_le o k l))

rows_some : (l : List ℕ) → (0 < rows_in l) × (rows_in l ≤ belief_limit)
unfolding rows_in
rows_some l =
    let n = number_below (suc belief_limit) (field_at 1 l) in
    let m = below_lt (suc belief_limit) (field_at 1 l) (omega arith) in
    cond_elim (λ k. (0 < k) × (k ≤ belief_limit)) (eqb n 0) 1 n (λ e. (omega arith, omega arith))
    (λ e. let z = eqb-false n 0 e in (omega (arith, z), omega (arith, m)))

pub rows_few : (l : List ℕ) → rows_in l ≤ belief_limit
rows_few l = (rows_some l).1

-- the limits of the shape
pub ruleset shape_laws = (observed_le, rows_few)

-- a row that goes on, from its line
module _ (n rows : ℕ) (some : 0 < rows) (l : List ℕ) where
  move_low : (o : Order) (i : ℕ) → Shown o n i → move_in o n rows l i < limit_at o rows i
  move_low o i h =
      subst (λ k. k < limit_at o rows i) (sym (move_shown o n rows l i h))
      (below_lt (limit_at o rows i) (field_at (3 + (i - shown_from o)) l) (limit_some o rows i some))

  move_first : (o : Order) → move_in o n rows l 0 < first_limit o
  move_first Set = move_low Set 0 (omega arith, omega arith)
  move_first Read = subst (λ k. k < 1) (sym (move_hidden Read n rows l 0 (λ (a, b). omega arith))) (omega arith)

module _ (shape : Shape) (some : 0 < shape.rows) (s : List ℕ) where
  abbrev t : List ℕ
  t = cells_in shape s

  abbrev o : Order
  o = shape.order

  abbrev n : ℕ
  n = 2 ^ shape.observed

  module _ (i : ℕ) (h : i < shape.rows) where
    abbrev line : List ℕ
    line = line_at (suc i) s

    abbrev moves : ℕ → ℕ
    moves = move_in o n shape.rows line

    stop_first : says_stop line ≡ true → first_cell o t i ≡ stop_cell
    stop_first e = cell_is shape s i h 0 (first_inside o) ∙ row_stop shape line e

    -- a row that goes on has these cells, and no stop
    module _ (e : says_stop line ≡ false) where
      cell_moves : (k : ℕ) → k < rank_at o → cell o t i k ≡ moves k
      cell_moves k b = cell_is shape s i h k (before_inside o k b) ∙ row_move shape line e k b

      first_low : first_cell o t i < first_limit o
      first_low = subst (λ c. c < first_limit o) (sym (cell_moves 0 (first_before o))) (move_first n shape.rows some line o)

      goes : ¬ (first_cell o t i ≡ stop_cell)
      goes = first_goes o (first_cell o t i) first_low

    answer : IsFirst o (first_cell o t i)
    answer = elim (test (says_stop line)) [ inl e ↦ inr (stop_first e) | inr e ↦ inl (first_low e) ]

  module _ (seen : shape.observed ≤ kind_limit) (i : ℕ) (h : i < shape.rows) where
    moving : ¬ (first_cell o t i ≡ stop_cell) → says_stop (line_at (suc i) s) ≡ false
    moving m = elim (test (says_stop (line_at (suc i) s))) [ inl e ↦ absurd (m (stop_first i h e)) | inr e ↦ e ]

    formed : FormedRow t shape i
    formed = record { first = answer i h; goes = goes_on_lem }
      where
        goes_on_lem : (k : ℕ) → Used t shape i k → GoesOn t shape i k
        goes_on_lem k (m, b) =
            let side : k < side_limit = omega (arith, side_le shape.observed seen) in
            let low = move_low n shape.rows some (line_at (suc i) s) o in
            let choice = cell_moves i h (moving m) (choice_at o k) (choice_before o k side) in
            let next = cell_moves i h (moving m) (next_at o k) (next_before o k side) in
            let row : next_cell o t i k < shape.rows =
            subst (λ x. x < shape.rows) (sym next)
            (subst (λ x. moves i h (next_at o k) < x) (next_limit o shape.rows k) (low (next_at o k) (next_shown o n k b))) in
            record {
              choice = subst (λ x. x < side_limit) (sym choice)
                  (subst (λ x. moves i h (choice_at o k) < x) (choice_limit o shape.rows k) (low (choice_at o k) (choice_shown o n k b)));
              next = row;
              first = answer (next_cell o t i k) row;
            }

    -- unused cells
    unused : (k : ℕ) → k < side_limit → Unused t shape i k → (j : ℕ) → OwnAt o k j → cell o t i j ≡ 0
    unused k b u j own =
        let before = own_before o k j b own in
        elim (test (says_stop (line_at (suc i) s))) [
          | inl e ↦ cell_is shape s i h j (before_inside o j before) ∙ row_rest shape (line_at (suc i) s) e j (own_some o k j own) before
          | inr e ↦
              elim u [
                | inl z ↦ absurd (goes i h e z)
                | inr l ↦ cell_moves i h e j before ∙ move_hidden o n shape.rows (line_at (suc i) s) j (own_hidden o n k j l own)
              ]
        ]

    rank_low : rank_cell o t i < cell_limit
    unfolding rank_in
    rank_low =
        let line = line_at (suc i) s in
        subst (λ k. k < cell_limit) (sym (cell_is shape s i h (rank_at o) (rank_inside o) ∙ row_rank shape line))
        (in_cell cell_limit (field_at 2 line) (le_refl _))

    shaped_row : ShapedRow t shape i
    shaped_row = record { formed = formed; blank = λ k b u. blank_by o t i k (unused k b u); rank = rank_low }

pub candidate_shaped : (s : List ℕ) → Shaped (cells_in (shape_in s) s) (shape_in s) (worst_in (shape_in s).rows s)
unfolding shape_in worst_in
candidate_shaped s =
    let shape = shape_in s in
    let (some, few) = rows_some (line_at 0 s) in
    let seen = observed_le shape.order kind_limit (line_at (suc (first_that (goes_on s) shape.rows)) s) in
    record {
      sized = record { some = some; few = few; room = omega (arith, cells_length shape s); seen = seen };
      below = below_lt shape.rows (field_at 2 (line_at 0 s)) some;
      each = λ i h. shaped_row shape some s seen i h;
    }
