-- What the text of a table says is read back, line by line, whatever its ranks: a text that begins with lines of the text of some table is
-- compared with a print that begins so too.
-- Assumes nothing.
use Prim.Native.Nat.{ℕ, zero, suc, ◌+◌, ◌*◌, ◌^◌, ◌≤◌, ◌<◌}
use native.Mathlib.Decide.{dec_le}
use native.Mathlib.Omega.{arith}
use mathlib.Core.Path.{◌≡◌, refl, sym, ap, ap₂, ◌∙◌, subst}
use mathlib.Core.Logic.{inl, inr}
use mathlib.Core.Bool.{Bool, true, false, not}
use mathlib.Core.List.{List, [], ◌∷◌, ◌++◌, append-nil, flat_map}
use lib.ListN.{get_or, take}
use borrow.Author.Tests.{eqb-true}
use Rattle.basics.specs.Bounded.{first_that, all}
use Rattle.basics.specs.Bytes.{bytes_of, not_tab}
use Rattle.basics.specs.Limits.{kind_limit}
use Rattle.basics.specs.Numbers.{number_below}
use Rattle.basics.specs.Pieces.{piece, field_at, line_at}
use Rattle.basics.specs.Text.{decimal, field}
use Rattle.basics.specs.declared.order.Order.{Order}
use Rattle.basics.proofs.Booleans.{test, clash}
use Rattle.basics.proofs.BoundedLaws.{first_of, first_least, none_first, all_at, all_not}
use Rattle.basics.proofs.PiecesLaws.{piece_last, behind_none}
use Rattle.play.specs.Cells.{row_size, stop_cell, first_cell, is_stop}
use Rattle.printer.specs.Text.{shown_count, table_text}
use Rattle.wellformed.specs.WellFormed.{Shaped}
use Rattle.tables.specs.declared.shape.Shape.{Shape}
use Rattle.loader.specs.Candidate.{says_stop, row_in, observed_in, order_in, rows_in, goes_on, shape_in, worst_in, cells_in, print_in}
use Rattle.loader.specs.LoadedAs.{Lines, TextOf, told_shape}
use Rattle.loader.proofs.WholeLines.{lines_same, lines_most, lines_begin}
use Rattle.loader.proofs.PrintLines.{head_body, row_body, print_lines, print_head, print_row, print_end}
use Rattle.loader.proofs.CandidateLaws.{cells_length}
use Rattle.loader.proofs.CandidatePrint.{cell_is}
use Rattle.loader.proofs.RowBack.{order_back, rows_back, worst_back, stop_line, move_line, observed_back, with_observed, row_back}
use Rattle.loader.proofs.SameRows.{SameRow, same_tables, same_fields, SameRanks, Said, tells}

-- what a text is compared with, by the shape and the worst case that it says
printed : (s : List ℕ) (shape : Shape) (worst : ℕ) → shape_in s ≡ shape → worst_in shape.rows s ≡ worst
    → print_in s ≡ table_text (cells_in shape s) shape worst
unfolding print_in
printed s shape worst e q =
    ap (λ (x : Shape). table_text (cells_in x s) x (worst_in x.rows s)) e ∙ ap (table_text (cells_in shape s) shape) q

-- ---- a text whose lines are those of a table's text, as far as row m

module _ (t : List ℕ) (shape : Shape) (worst : ℕ) (p : Shaped t shape worst) (s : List ℕ) where
  abbrev o : Order
  o = shape.order

  -- the line of row i
  abbrev Same : ℕ → Type 0
  Same i = line_at (suc i) s ≡ row_body t shape i

  -- its cells, with as many observed signals if it goes on
  row_cells : (x m : ℕ) → m < shape.rows → Same m → (is_stop o t m ≡ false → x ≡ shape.observed)
      → SameRow o t (cells_in (with_observed shape x) s) m
  row_cells x m h same seen k b =
      cell_is (with_observed shape x) s m h k b ∙ ap (λ l. get_or (row_in (with_observed shape x) l) k 0) same ∙ row_back t shape worst p m h x seen k b

  module _ (first : line_at 0 s ≡ head_body o shape.rows worst) where
    same_rows : (shape_in s).rows ≡ shape.rows
    unfolding shape_in
    same_rows = ap rows_in first ∙ rows_back o shape.rows worst p.sized.some p.sized.few p.below

    same_order : (shape_in s).order ≡ o
    unfolding shape_in
    same_order = ap order_in first ∙ order_back o shape.rows worst

    -- the shape, but for the number of observed signals
    same_shape : shape_in s ≡ with_observed shape (shape_in s).observed
    unfolding shape_in
    same_shape = ap₂ {C = Shape} (λ r q. record { rows = r; observed = (shape_in s).observed; order = q }) same_rows same_order

    same_worst : worst_in shape.rows s ≡ worst
    unfolding worst_in
    same_worst = ap (λ l. number_below shape.rows (field_at 2 l)) first ∙ worst_back o shape.rows worst p.sized.some p.sized.few p.below

    goes_on_lem : (i : ℕ) → i < shape.rows → Same i → is_stop o t i ≡ false → goes_on s i ≡ true
    unfolding goes_on
    goes_on_lem i h e f = ap (λ l. not (says_stop l)) e ∙ ap not (move_line t shape worst p i h f)

    stops_so : (i : ℕ) → i < shape.rows → Same i → goes_on s i ≡ true → is_stop o t i ≡ false
    unfolding goes_on
    stops_so i h e g =
        elim (test (is_stop o t i)) [
          | inl q ↦ clash g (ap (λ l. not (says_stop l)) e ∙ ap not (stop_line t shape worst p i h q))
          | inr q ↦ q
        ]

    -- where a row goes on, so does a first one, which tells the number of observed signals
    same_observed : (m : ℕ) → m < shape.rows → ((i : ℕ) → i ≤ m → Same i) → is_stop o t m ≡ false → (shape_in s).observed ≡ shape.observed
    unfolding shape_in
    same_observed m h same f =
        let rows : rows_in (line_at 0 s) ≡ shape.rows = same_rows in
        let k = first_that (goes_on s) (rows_in (line_at 0 s)) in
        let g = goes_on_lem m h (same m (omega arith)) f in
        let (inside, on) = first_of (goes_on s) (rows_in (line_at 0 s)) m (omega arith) g in
        let early : k ≤ m = not_later (goes_on s) (rows_in (line_at 0 s)) m g in
        let b : k < shape.rows = omega (arith, h, early) in
        ap₂ (λ q l. observed_in q kind_limit l) same_order (same k early)
        ∙ observed_back t shape worst p k b (stops_so k b (same k early) on) kind_limit p.sized.seen
      where
        not_later : (ok : ℕ → Bool) (n m : ℕ) → ok m ≡ true → first_that ok n ≤ m
        not_later ok n m e =
            elim (dec_le (first_that ok n) m) [
              | yes l ↦ l
              | no l ↦ clash e (first_least ok n m (omega arith))
            ]

    -- row m, as the text says it
    module _ (m : ℕ) (h : m < shape.rows) (same : (i : ℕ) → i ≤ m → Same i) where
      abbrev told : Shape
      told = with_observed shape (shape_in s).observed

      same_row : row_body (cells_in told s) told m ≡ row_body t shape m
      same_row =
          let seen = same_observed m h same in
          ap (λ fs. bytes_of "row" ++ flat_map field (decimal m ∷ fs))
          (same_fields t (cells_in told s) shape told.observed m p.sized.seen (row_cells told.observed m h (same m (omega arith)) seen) seen)

-- ---- what a text begins with

-- the first lines of a text that the text of some table has too stand in front of the print that the text is compared with
pub begins_so : (t : List ℕ) (shape : Shape) (worst : ℕ) → Shaped t shape worst → (j : ℕ) (u v w s : List ℕ) → Lines j u → s ≡ u ++ v
    → table_text t shape worst ≡ u ++ w → (x : List ℕ) × (print_in s ≡ u ++ x)
begins_so t shape worst p zero u v w s ls es et = (print_in s, ap (λ (a : List ℕ). a ++ print_in s) (sym ls))
begins_so t shape worst p (suc j) u v w s ls es et =
    let (x, e) = lines_begin (suc shape.rows) (suc j) print u (print_lines (cells_in said s) said worst) ls most same_lines in
    (x, print_is ∙ e)
  where
    most : suc j ≤ suc shape.rows
    most = lines_most (suc shape.rows) (suc j) (table_text t shape worst) u w (print_lines t shape worst) ls et

    -- line i of the text, of the lines in front, and of the print
    in_text : (i : ℕ) → i < suc j → line_at i s ≡ line_at i (table_text t shape worst)
    in_text i h = ap (line_at i) es ∙ lines_same (suc j) u ls i h v w ∙ ap (line_at i) (sym et)

    in_front : (i : ℕ) → i < suc j → line_at i (table_text t shape worst) ≡ line_at i u
    in_front i h = ap (line_at i) et ∙ lines_same (suc j) u ls i h w [] ∙ ap (line_at i) (append-nil u)

    first : line_at 0 s ≡ head_body shape.order shape.rows worst
    first = in_text 0 (omega arith) ∙ print_head t shape worst

    row_line : (i : ℕ) → suc i < suc j → line_at (suc i) s ≡ row_body t shape i
    row_line i h = in_text (suc i) h ∙ print_row t shape worst i (omega (arith, most))

    -- what the text is compared with
    said : Shape
    said = with_observed shape (shape_in s).observed

    print : List ℕ
    print = table_text (cells_in said s) said worst

    print_is : print_in s ≡ print
    print_is = printed s said worst (same_shape t shape worst p s first) (same_worst t shape worst p s first)

    same_lines : (i : ℕ) → i < suc j → line_at i print ≡ line_at i u
    same_lines zero h = print_head (cells_in said s) said worst ∙ sym (print_head t shape worst) ∙ in_front 0 h
    same_lines (suc i) h =
        let b : i < shape.rows = omega (arith, most) in
        print_row (cells_in said s) said worst i b
        ∙ same_row t shape worst p s first i b (λ k l. row_line k (omega arith))
        ∙ sym (print_row t shape worst i b) ∙ in_front (suc i) h

-- ---- the whole text of a table

-- nothing is told by an empty line
observed_none : (o : Order) (k : ℕ) → observed_in o k [] ≡ 0
unfolding observed_in
observed_none o zero = refl
observed_none o (suc k) =
    let n = 2 + shown_count o (2 ^ suc k) in
    let none : field_at n [] ≡ [] = ap (piece not_tab) (behind_none not_tab n) ∙ piece_last not_tab [] tt in
    rw none (observed_none o k)

module _ (s : List ℕ) (shape : Shape) (worst : ℕ) (cells : List ℕ) (is : TextOf s cells shape worst) where
  line_is : (i : ℕ) → line_at i s ≡ line_at i (table_text cells shape worst)
  line_is i = ap (line_at i) (sym is.text)

  first : line_at 0 s ≡ head_body shape.order shape.rows worst
  first = line_is 0 ∙ print_head cells shape worst

  row_is : (i : ℕ) → i < shape.rows → line_at (suc i) s ≡ row_body cells shape i
  row_is i h = line_is (suc i) ∙ print_row cells shape worst i h

  -- where all rows stop, no line tells the number of observed signals
  pub none_told : ((i : ℕ) → i < shape.rows → is_stop shape.order cells i ≡ true) → (shape_in s).observed ≡ 0
  unfolding shape_in goes_on
  none_told stop =
      let rows : rows_in (line_at 0 s) ≡ shape.rows = same_rows cells shape worst is.shaped s first in
      let last : first_that (goes_on s) (rows_in (line_at 0 s)) ≡ shape.rows =
      none_first (goes_on s) (rows_in (line_at 0 s)) (λ i h.
      let b : i < shape.rows = omega (arith, rows, h) in
      ap (λ l. not (says_stop l)) (row_is i b) ∙ ap not (stop_line cells shape worst is.shaped i b (stop i b)))
      ∙ rows in
      let q = order_in (line_at 0 s) in
      ap (λ n. observed_in q kind_limit (line_at (suc n) s)) last
      ∙ ap (observed_in q kind_limit) (line_is (suc shape.rows) ∙ print_end cells shape worst)
      ∙ observed_none q kind_limit

-- a text says the table that it tells, and is its own print
module _ (s : List ℕ) (shape : Shape) (worst : ℕ) (cells : List ℕ) (said : Said s shape worst cells) where
  abbrev p : Shaped cells shape worst
  p = said.is.shaped

  head_is : line_at 0 s ≡ head_body shape.order shape.rows worst
  head_is = first s shape worst cells said.is

  line_of_row : (i : ℕ) → i < shape.rows → line_at (suc i) s ≡ row_body cells shape i
  line_of_row = row_is s shape worst cells said.is

  -- some row goes on, or none does
  observed_is : (shape_in s).observed ≡ shape.observed
  observed_is =
      let stops = is_stop shape.order cells in
      elim (test (all shape.rows stops)) [
        | inl e ↦
            let stop : (i : ℕ) → i < shape.rows → stops i ≡ true = all_at shape.rows stops e in
            none_told s shape worst cells said.is stop
            ∙ sym (said.untold (λ i h. eqb-true (first_cell shape.order cells i) stop_cell (stop i h)))
        | inr e ↦
            let (m, h, f) = all_not shape.rows stops e in
            same_observed cells shape worst p s head_is m h (λ i l. line_of_row i (omega (arith, h))) f
      ]

  pub shape_is : shape_in s ≡ shape
  shape_is = same_shape cells shape worst p s head_is ∙ ap (with_observed shape) observed_is

  pub worst_is : worst_in (shape_in s).rows s ≡ worst
  worst_is = ap (λ (x : Shape). worst_in x.rows s) shape_is ∙ same_worst cells shape worst p s head_is

  said_cells : cells_in shape s ≡ cells
  said_cells =
      same_tables shape.order shape.rows cells (cells_in shape s) said.exact (cells_length shape s)
      (λ i h. row_cells cells shape worst p s shape.observed i h (line_of_row i h) (λ f. refl))

  pub cells_are : cells_in (shape_in s) s ≡ cells
  cells_are = ap (λ x. cells_in x s) shape_is ∙ said_cells

  pub own_print : print_in s ≡ s
  own_print =
      printed s shape worst shape_is (same_worst cells shape worst p s head_is) ∙ ap (λ c. table_text c shape worst) said_cells ∙ said.is.text

-- the text of any table: what it tells has the same ranks
module _ (s t : List ℕ) (shape : Shape) (worst : ℕ) (is : TextOf s t shape worst) where
  abbrev rows : List ℕ
  rows = take (shape.rows * row_size shape.order) t

  told_rows : Said s (told_shape t shape) worst rows
  told_rows = subst (λ (x : List ℕ). Said x (told_shape t shape) worst rows) is.text (tells t shape worst is.shaped).0

  pub text_print : print_in s ≡ s
  text_print = own_print s (told_shape t shape) worst rows told_rows

  pub text_worst : worst_in (shape_in s).rows s ≡ worst
  text_worst = worst_is s (told_shape t shape) worst rows told_rows

  pub text_ranks : SameRanks t shape (cells_in (shape_in s) s) (shape_in s)
  text_ranks =
      subst (λ (x : Shape). SameRanks t shape (cells_in (shape_in s) s) x) (sym (shape_is s (told_shape t shape) worst rows told_rows))
      (subst (λ (c : List ℕ). SameRanks t shape c (told_shape t shape)) (sym (cells_are s (told_shape t shape) worst rows told_rows))
      (tells t shape worst is.shaped).1)
