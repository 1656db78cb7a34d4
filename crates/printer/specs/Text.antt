-- The text that a table and a refusal are printed as (REFERENCE.md, The text).
-- Assumes nothing.
use Rattle.std.specs.Prelude.{ℕ, ◌+◌, ◌*◌, ◌^◌, cond}
use mathlib.Core.List.{List, [], ◌∷◌, ◌++◌, flat_map}
use Rattle.basics.specs.Bytes.{bytes_of}
use Rattle.basics.specs.Lists.{tabulate}
use Rattle.basics.specs.Text.{decimal, line}
use Rattle.lines.specs.declared.refusal.Refusal.{Refusal}
use Rattle.lines.specs.Refusal.{number_of, place_of}
use Rattle.basics.specs.declared.order.Order.{Order}
use Rattle.basics.specs.declared.order.Order.TheVariants.{Set, Read}
use Rattle.play.specs.Cells.{cell, is_stop, rank_cell}
use Rattle.tables.specs.declared.shape.Shape.{Shape}

-- the cells of a row that are printed, for n observations: under `Set` its choice and then its next rows, under `Read` for each
-- observation its choice and its next row; both are one run of cells, from observation 0 on
abbrev pub shown_from : Order → ℕ
shown_from Set = 0
shown_from Read = 1

abbrev pub shown_count : Order → ℕ → ℕ
shown_count Set n = 1 + n
shown_count Read n = 2 * n

abbrev pub shown_fields : Order → List ℕ → ℕ → ℕ → List (List ℕ)
shown_fields o t row n = tabulate (shown_count o n) (λ i. decimal (cell o t row (shown_from o + i)))

-- what a row does: the word `stop`, or these
abbrev pub row_fields : List ℕ → Shape → ℕ → List (List ℕ)
row_fields t shape row = cond (is_stop shape.order t row) (bytes_of "stop" ∷ []) (shown_fields shape.order t row (2 ^ shape.observed))

-- a row: its number, its rank, and what it does
abbrev pub row_text : List ℕ → Shape → ℕ → List ℕ
row_text t shape row = line (bytes_of "row") (decimal row ∷ decimal (rank_cell shape.order t row) ∷ row_fields t shape row)

-- the first n rows
abbrev pub rows_text : List ℕ → Shape → ℕ → List ℕ
rows_text t shape n = flat_map (row_text t shape) (tabulate n (λ row. row))

-- the first word tells the order
abbrev pub table_word : Order → List ℕ
table_word Set = bytes_of "table"
table_word Read = bytes_of "rtable"

abbrev pub table_text : List ℕ → Shape → ℕ → List ℕ
table_text t shape worst = line (table_word shape.order) (decimal shape.rows ∷ decimal worst ∷ []) ++ rows_text t shape shape.rows

-- a refusal: its number and its place
abbrev pub refusal_text : Refusal → List ℕ
refusal_text r = line (bytes_of "refused") (decimal (number_of r) ∷ decimal (place_of r) ∷ [])
