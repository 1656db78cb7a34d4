-- What a line and a text say, in the shape in which the code asks it.
-- Assumes nothing.
use Prim.Native.Nat.{ℕ, zero, suc, ◌+◌, ◌-◌, ◌*◌, ◌%◌, ◌^◌, ◌≤◌, ◌<◌}
use native.Mathlib.Omega.{arith}
use mathlib.Core.Path.{◌≡◌, refl, sym, ap, ◌∙◌}
use mathlib.Core.Bool.{true, false, cond}
use mathlib.Core.List.{List, flat_map}
use lib.Dec.{ltb}
use lib.ListN.{length, get_or}
use borrow.Author.Tests.{lt-ltb, le-ltb}
use Rattle.basics.specs.Limits.{kind_limit}
use Rattle.basics.specs.Lists.{tabulate, below}
use Rattle.basics.specs.Numbers.{number_below}
use Rattle.basics.specs.Pieces.{field_at, line_at}
use Rattle.basics.specs.declared.order.Order.{Order}
use Rattle.basics.proofs.BitsLaws.{shl_one}
use Rattle.basics.proofs.Booleans.{cond_elim}
use Rattle.basics.proofs.EqualRows.{length_rows}
use Rattle.basics.proofs.ListsLaws.{length_tabulate, get_d_tabulate}
use Rattle.basics.proofs.NumbersLaws.{below_lt, below_le}
use Rattle.basics.proofs.SaysLaws.{says_false}
use Rattle.play.specs.Limits.{side_limit}
use Rattle.play.specs.Cells.{rank_at, row_size, cell_limit, stop_cell, stop_row}
use Rattle.play.proofs.CellsLaws.{rank_last, first_before, before_inside, stop_length, stop_first, stop_rest, rank_length, rank_there, rank_other}
use Rattle.printer.specs.Text.{shown_from, shown_count}
use Rattle.wellformed.proofs.WellFormedLaws.{side_le}
use Rattle.tables.specs.declared.shape.Shape.{Shape}
use Rattle.loader.specs.Candidate.{says_stop, rank_in, limit_at, move_in, row_in, observed_in, cells_in}
use Rattle.loader.proofs.ShownCells.{Shown, shown_says}

-- ---- a row, from its line

-- a number below a limit that is not greater than a cell's is in a cell
pub in_cell : (limit : ℕ) (s : List ℕ) → limit ≤ cell_limit → number_below limit s < cell_limit
in_cell zero s h = omega (arith, below_le 0 s)
in_cell (suc k) s h = omega (arith, below_lt (suc k) s (omega arith))

module _ (o : Order) (n rows : ℕ) (line : List ℕ) (i : ℕ) where
  -- a cell that is printed, and one that is not
  pub move_shown : Shown o n i → move_in o n rows line i ≡ number_below (limit_at o rows i) (field_at (3 + (i - shown_from o)) line)
  unfolding move_in
  move_shown h = rw ((shown_says o n i).1 h) refl

  pub move_hidden : ¬ Shown o n i → move_in o n rows line i ≡ 0
  unfolding move_in
  move_hidden h = rw (says_false (shown_says o n i) h) refl

module _ (shape : Shape) (line : List ℕ) where
  abbrev o : Order
  o = shape.order

  abbrev moves : ℕ → ℕ
  moves = move_in o (2 ^ shape.observed) shape.rows line

  -- its cells but for the rank
  abbrev unranked : List ℕ
  unranked = cond (says_stop line) (stop_row o) (tabulate (row_size o) moves)

  unranked_length : length unranked ≡ row_size o
  unranked_length =
      cond_elim (λ l. length l ≡ row_size o) (says_stop line) (stop_row o) (tabulate (row_size o) moves)
      (λ e. stop_length o) (λ e. length_tabulate (row_size o) moves)

  pub row_length : length (row_in shape line) ≡ row_size o
  unfolding row_in
  row_length = rank_length o (rank_in line) unranked ∙ unranked_length

  -- the last is the rank
  pub row_rank : get_or (row_in shape line) (rank_at o) 0 ≡ rank_in line
  unfolding row_in
  row_rank = rank_there o (rank_in line) unranked unranked_length

  -- the others, by whether it stops
  row_other : (i : ℕ) → i < rank_at o → get_or (row_in shape line) i 0 ≡ get_or unranked i 0
  unfolding row_in
  row_other i h = rank_other o (rank_in line) unranked i h

  pub row_stop : says_stop line ≡ true → get_or (row_in shape line) 0 0 ≡ stop_cell
  row_stop e = row_other 0 (first_before o) ∙ rw e (stop_first o)

  pub row_rest : says_stop line ≡ true → (i : ℕ) → 0 < i → i < rank_at o → get_or (row_in shape line) i 0 ≡ 0
  row_rest e zero some h = absurd (omega arith)
  row_rest e (suc i) some h = row_other (suc i) h ∙ rw e (stop_rest o i)

  pub row_move : says_stop line ≡ false → (i : ℕ) → i < rank_at o → get_or (row_in shape line) i 0 ≡ moves i
  row_move e i h = row_other i h ∙ rw e (get_d_tabulate (row_size o) moves i 0 (before_inside o i h))

  -- by the test of the code
  module _ (i at : ℕ) (is : at ≡ rank_at o) where
    pub rank_here : i ≡ at → number_below cell_limit (field_at 2 line) ≡ get_or (row_in shape line) i 0
    unfolding rank_in
    rank_here e = sym (ap (λ (k : ℕ). get_or (row_in shape line) k 0) (e ∙ is) ∙ row_rank)

    pub rank_behind : (i ≡ at → ⊥) → i < row_size o → i < rank_at o
    rank_behind m h = omega (arith, rank_last o, is, m)

-- ---- the number of observed signals, tried from the greatest down

pub tried_small : (k : ℕ) → k ≤ kind_limit → 1 * 2 ^ k % 18446744073709551616 ≤ side_limit
tried_small k h = omega (arith, shl_one k (omega arith), side_le k h)

module _ (o : Order) where
  field_tried : (k : ℕ) (line f : List ℕ) → k ≤ kind_limit → (m : ℕ) → m ≡ shown_count o (1 * 2 ^ k % 18446744073709551616)
      → f ≡ field_at (2 + m) line → f ≡ field_at (2 + shown_count o (2 ^ k)) line
  field_tried k line f h m q e = e ∙ ap (λ n. field_at (2 + n) line) (q ∙ ap (shown_count o) (shl_one k (omega arith)))

  pub observed_none : (k : ℕ) (line : List ℕ) → k ≤ 0 → 0 ≡ observed_in o k line
  unfolding observed_in
  observed_none zero line h = refl
  observed_none (suc k) line h = absurd (omega arith)

  pub observed_here : (k : ℕ) (line f : List ℕ) → k ≤ kind_limit → 0 < k → (m : ℕ) → m ≡ shown_count o (1 * 2 ^ k % 18446744073709551616)
      → f ≡ field_at (2 + m) line → 0 < length f → k ≡ observed_in o k line
  unfolding observed_in
  observed_here zero line f h some m q e l = absurd (omega arith)
  observed_here (suc k) line f h some m q e l =
      let t : ltb 0 (length (field_at (2 + shown_count o (2 ^ suc k)) line)) ≡ true =
      ap (λ u. ltb 0 (length u)) (sym (field_tried (suc k) line f h m q e)) ∙ lt-ltb 0 (length f) l in
      rw t refl

  pub observed_less : (k : ℕ) (line f : List ℕ) → k ≤ kind_limit → 0 < k → (m : ℕ) → m ≡ shown_count o (1 * 2 ^ k % 18446744073709551616)
      → f ≡ field_at (2 + m) line → length f ≤ 0 → observed_in o k line ≡ observed_in o (k - 1) line
  unfolding observed_in
  observed_less zero line f h some m q e l = absurd (omega arith)
  observed_less (suc k) line f h some m q e l =
      let t : ltb 0 (length (field_at (2 + shown_count o (2 ^ suc k)) line)) ≡ false =
      ap (λ u. ltb 0 (length u)) (sym (field_tried (suc k) line f h m q e)) ∙ le-ltb 0 (length f) l in
      let p : suc k - 1 ≡ k = omega arith in
      rw (t, p) refl

-- ---- the cells

module _ (shape : Shape) (s : List ℕ) where
  pub rows_length : (n : ℕ) → length (flat_map (λ i. row_in shape (line_at (suc i) s)) (below n)) ≡ n * row_size shape.order
  rows_length n =
      length_rows (row_size shape.order) (λ i. row_in shape (line_at (suc i) s)) (λ i. row_length shape (line_at (suc i) s)) (below n)
      ∙ ap (λ k. k * row_size shape.order) (length_tabulate n (λ k. k))

  pub cells_length : length (cells_in shape s) ≡ shape.rows * row_size shape.order
  unfolding cells_in
  cells_length = rows_length shape.rows
