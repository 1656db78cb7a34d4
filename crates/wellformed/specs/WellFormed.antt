-- What a table must be, by number 13 (REFERENCE.md, Refusals), and the tests: the printer asks it of every row, the cabinet of its own and
-- of the next ones. A text is first held to all of it but the ranks (`Shaped`).
-- Assumes nothing.
use Rattle.std.specs.Prelude.{ℕ, ◌*◌, ◌^◌, ◌≤◌, ◌<◌, ◌≡◌, ◌⊎◌, Bool, cond, ◌&&◌, ◌||◌, List, eqb, leb, ltb, length}
use Rattle.basics.specs.Limits.{kind_limit}
use Rattle.play.specs.Limits.{belief_limit, side_limit}
use Rattle.basics.specs.declared.order.Order.{Order}
use Rattle.basics.specs.declared.order.Order.TheVariants.{Set, Read}
use Rattle.play.specs.Cells.{row_size, stop_cell, cell_limit, first_cell, is_stop, choice_cell, next_cell, rank_cell, Blank}
use Rattle.tables.specs.declared.shape.Shape.{Shape}
use Rattle.basics.specs.Bounded.{all}

-- ---- what a table must be

-- the row count, how many cells there are for rows of the order, and the number of observed signals
pub record Sized (cells : ℕ) (shape : Shape) : Type 0 where
  pub some : 0 < shape.rows
  pub few : shape.rows ≤ belief_limit
  pub room : shape.rows * row_size shape.order ≤ cells
  pub seen : shape.observed ≤ kind_limit

-- a row's first cell, where the row does not stop, is below this: a choice, or 0
abbrev pub first_limit : Order → ℕ
first_limit Set = side_limit
first_limit Read = 1

-- a row's first cell: such a number, or stop
abbrev pub IsFirst : Order → ℕ → Type 0
IsFirst o c = (c < first_limit o) ⊎ (c ≡ stop_cell)

abbrev pub Stops : List ℕ → Shape → ℕ → Type 0
Stops t shape row = first_cell shape.order t row ≡ stop_cell

-- an observation that a row has cells for: the row does not stop, and the observation is possible
abbrev pub Used : List ℕ → Shape → ℕ → ℕ → Type 0
Used t shape row s = (¬ Stops t shape row) × (s < 2 ^ shape.observed)

-- what it has for one: a choice, and a row of the table, whose first cell is as it must be
pub record GoesOn (t : List ℕ) (shape : Shape) (row s : ℕ) : Type 0 where
  pub choice : choice_cell shape.order t row s < side_limit
  pub next : next_cell shape.order t row s < shape.rows
  pub first : IsFirst shape.order (first_cell shape.order t (next_cell shape.order t row s))

-- a row, but for ranks
pub record FormedRow (t : List ℕ) (shape : Shape) (row : ℕ) : Type 0 where
  pub first : IsFirst shape.order (first_cell shape.order t row)
  pub goes : (s : ℕ) → Used t shape row s → GoesOn t shape row s

-- a row's rank by itself: below the row count, 0 where the row stops and not 0 where it goes on
pub record RankFits (t : List ℕ) (shape : Shape) (row : ℕ) : Type 0 where
  pub below : rank_cell shape.order t row < shape.rows
  pub stops : Stops t shape row → rank_cell shape.order t row ≡ 0
  pub goes : (¬ Stops t shape row) → 0 < rank_cell shape.order t row

-- .. and against those of its next rows, which are lower
pub record RankedRow (t : List ℕ) (shape : Shape) (row : ℕ) : Type 0 where
  pub own : RankFits t shape row
  pub lower : (s : ℕ) → Used t shape row s
      → rank_cell shape.order t (next_cell shape.order t row s) < rank_cell shape.order t row

-- a row that the cabinet may stand on; of its next rows it asks the rank by itself
pub record GoodRow (t : List ℕ) (shape : Shape) (row : ℕ) : Type 0 where
  pub formed : FormedRow t shape row
  pub ranked : RankedRow t shape row
  pub next : (s : ℕ) → Used t shape row s → RankFits t shape (next_cell shape.order t row s)

-- an observation whose cells are unused: any one in a stop row, else one that is not possible
abbrev pub Unused : List ℕ → Shape → ℕ → ℕ → Type 0
Unused t shape row s = Stops t shape row ⊎ (2 ^ shape.observed ≤ s)

-- a row whatever its rank, which is a number that a cell can hold
pub record ShapedRow (t : List ℕ) (shape : Shape) (row : ℕ) : Type 0 where
  pub formed : FormedRow t shape row
  pub blank : (s : ℕ) → s < side_limit → Unused t shape row s → Blank shape.order t row s
  pub rank : rank_cell shape.order t row < cell_limit

-- a table whatever its ranks: every row is one, and the worst case is below the row count
pub record Shaped (t : List ℕ) (shape : Shape) (worst : ℕ) : Type 0 where
  pub sized : Sized (length t) shape
  pub below : worst < shape.rows
  pub each : (row : ℕ) → row < shape.rows → ShapedRow t shape row

-- a table that is printed: the worst case is the rank of row 0, and every rank is as it must be
pub record Printable (t : List ℕ) (shape : Shape) (worst : ℕ) : Type 0 where
  pub shaped : Shaped t shape worst
  pub first : rank_cell shape.order t 0 ≡ worst
  pub ranked : (row : ℕ) → row < shape.rows → RankedRow t shape row

-- ---- the tests

-- the row count, how many cells there are, and the number of observed signals
abbrev pub is_sized : ℕ → Shape → Bool
is_sized cells shape =
    ltb 0 shape.rows && leb shape.rows belief_limit && leb (shape.rows * row_size shape.order) cells && leb shape.observed kind_limit

-- a row's first cell
abbrev pub is_first : Order → ℕ → Bool
is_first o c = ltb c (first_limit o) || eqb c stop_cell

-- a row's rank by itself
abbrev pub rank_fits : List ℕ → Shape → ℕ → Bool
rank_fits t shape row =
    let rank = rank_cell shape.order t row in
    ltb rank shape.rows && cond (is_stop shape.order t row) (eqb rank 0) (ltb 0 rank)

-- a next row is below the row count, and its first cell and its rank are as they must be
abbrev pub is_next : List ℕ → Shape → ℕ → Bool
is_next t shape next = ltb next shape.rows && is_first shape.order (first_cell shape.order t next) && rank_fits t shape next

-- how many observations a row has cells for: the possible ones, none where it stops; its other cells are unused
abbrev pub next_count : List ℕ → Shape → ℕ → ℕ
next_count t shape row = cond (is_stop shape.order t row) 0 (2 ^ shape.observed)

-- the cells of an observation: a choice, and a next row
abbrev pub is_pair : List ℕ → Shape → ℕ → ℕ → Bool
is_pair t shape row s = ltb (choice_cell shape.order t row s) side_limit && is_next t shape (next_cell shape.order t row s)

-- the first cell of a row, and the cells of its observations
unfoldable pub leads_on : List ℕ → Shape → ℕ → Bool
leads_on t shape row = is_first shape.order (first_cell shape.order t row) && all (next_count t shape row) (is_pair t shape row)

-- the observations of a row lead to rows of the table
abbrev pub Leads : List ℕ → Shape → ℕ → Type 0
Leads t shape row = (s : ℕ) → s < next_count t shape row → next_cell shape.order t row s < shape.rows

-- the next row for an observation ranks lower
abbrev pub is_lower : List ℕ → Shape → ℕ → ℕ → Bool
is_lower t shape row s = ltb (rank_cell shape.order t (next_cell shape.order t row s)) (rank_cell shape.order t row)

-- the rank of a row, and those of its next rows
unfoldable pub is_ranked : List ℕ → Shape → ℕ → Bool
is_ranked t shape row = rank_fits t shape row && all (next_count t shape row) (is_lower t shape row)

-- a row that the cabinet may stand on
unfoldable pub is_row : List ℕ → Shape → ℕ → Bool
is_row t shape row = leads_on t shape row && is_ranked t shape row

-- the printer's tests: every row is one, its unused cells are 0, ..
abbrev pub is_blank_at : Order → List ℕ → ℕ → ℕ → Bool
is_blank_at Set t row s = eqb (next_cell Set t row s) 0
is_blank_at Read t row s = eqb (choice_cell Read t row s) 0 && eqb (next_cell Read t row s) 0

unfoldable pub is_blank : List ℕ → Shape → ℕ → Bool
is_blank t shape row = all side_limit (λ s. ltb s (next_count t shape row) || is_blank_at shape.order t row s)

unfoldable pub is_printable_row : List ℕ → Shape → ℕ → Bool
is_printable_row t shape row = is_row t shape row && is_blank t shape row

-- .. and the worst case is the rank of row 0, which is below the row count
unfoldable pub is_printable : List ℕ → Shape → ℕ → Bool
is_printable t shape worst =
    is_sized (length t) shape && eqb (rank_cell shape.order t 0) worst && all shape.rows (is_printable_row t shape)
