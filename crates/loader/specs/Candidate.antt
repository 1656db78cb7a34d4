-- The table that a text is compared with: what stands where a table's text has its numbers, brought within the limits, so that it can be
-- written as text whatever that text is. Fields and lines are counted from 0: line 0 is the word that tells the order, the row count and the worst
-- case; line i + 1 is the word `row`, i, the rank, and `stop` or the printed cells.
-- Assumes nothing.
use Rattle.std.specs.Prelude.{ℕ, zero, suc, ◌+◌, ◌-◌, ◌%◌, ◌^◌, Bool, cond, not, ◌&&◌, eqb, leb, ltb, length}
use mathlib.Core.List.{List, flat_map}
use Rattle.basics.specs.Bounded.{first_that}
use Rattle.basics.specs.Bytes.{bytes_of, same_bytes}
use Rattle.basics.specs.Limits.{kind_limit}
use Rattle.basics.specs.Lists.{tabulate, below}
use Rattle.basics.specs.Numbers.{number_below}
use Rattle.basics.specs.Pieces.{field_at, line_at}
use Rattle.basics.specs.declared.order.Order.{Order}
use Rattle.basics.specs.declared.order.Order.TheVariants.{Set, Read}
use Rattle.play.specs.Limits.{belief_limit, side_limit}
use Rattle.play.specs.Cells.{row_size, cell_limit, stop_row, with_rank}
use Rattle.printer.specs.Text.{shown_from, shown_count, table_word, table_text}
use Rattle.tables.specs.declared.shape.Shape.{Shape}

-- ---- a row, from its line

unfoldable pub says_stop : List ℕ → Bool
says_stop l = same_bytes (field_at 3 l) (bytes_of "stop")

-- the rank: any number that a cell can hold
unfoldable pub rank_in : List ℕ → ℕ
rank_in l = number_below cell_limit (field_at 2 l)

-- cell i is printed, for n observations
abbrev pub is_shown : Order → ℕ → ℕ → Bool
is_shown o n i = leb (shown_from o) i && ltb i (shown_from o + shown_count o n)

-- what the number in cell i is below, for a choice and for a next row
abbrev pub limit_at : Order → (rows : ℕ) → ℕ → ℕ
limit_at Set rows i = cond (eqb i 0) side_limit rows
limit_at Read rows i = cond (eqb (i % 2) 1) side_limit rows

-- cell i of a row that goes on, for n observations: the first printed cell stands in field 3, and a cell that is not printed is 0
unfoldable pub move_in : Order → (n rows : ℕ) → List ℕ → ℕ → ℕ
move_in o n rows l i = cond (is_shown o n i) (number_below (limit_at o rows i) (field_at (3 + (i - shown_from o)) l)) 0

unfoldable pub row_in : Shape → List ℕ → List ℕ
row_in shape l =
    with_rank shape.order (rank_in l)
    (cond (says_stop l) (stop_row shape.order) (tabulate (row_size shape.order) (move_in shape.order (2 ^ shape.observed) shape.rows l)))

-- the number of observed signals, at most k: by the last field of a row for 2 ^ k observations
unfoldable pub observed_in : Order → ℕ → List ℕ → ℕ
observed_in o zero l = 0
observed_in o (suc k) l = cond (ltb 0 (length (field_at (2 + shown_count o (2 ^ suc k)) l))) (suc k) (observed_in o k l)

-- ---- the table, from the text

-- the order, from line 0
unfoldable pub order_in : List ℕ → Order
order_in l = cond (same_bytes (field_at 0 l) (table_word Read)) Read Set

-- the row count, from line 0
unfoldable pub rows_in : List ℕ → ℕ
rows_in l = let n = number_below (suc belief_limit) (field_at 1 l) in cond (eqb n 0) 1 n

-- row i does not stop
unfoldable pub goes_on : List ℕ → ℕ → Bool
goes_on s i = not (says_stop (line_at (suc i) s))

-- the first row that goes on tells the number of observed signals; where none does, the line behind the rows is empty in a table's text
unfoldable pub shape_in : List ℕ → Shape
shape_in s =
    let rows = rows_in (line_at 0 s) in
    let o = order_in (line_at 0 s) in
    record { rows = rows; observed = observed_in o kind_limit (line_at (suc (first_that (goes_on s) rows)) s); order = o }

unfoldable pub worst_in : ℕ → List ℕ → ℕ
worst_in rows s = number_below rows (field_at 2 (line_at 0 s))

unfoldable pub cells_in : Shape → List ℕ → List ℕ
cells_in shape s = flat_map (λ i. row_in shape (line_at (suc i) s)) (below shape.rows)

-- its print
unfoldable pub print_in : List ℕ → List ℕ
print_in s = let shape = shape_in s in table_text (cells_in shape s) shape (worst_in shape.rows s)
