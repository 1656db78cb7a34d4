-- What the loading call answers, what it leaves in the lent table, and what is due: it is the inverse of printing (REFERENCE.md, Loading).
-- Assumes nothing.
use Rattle.tables.specs.Outcome.{table_with}
use Rattle.tables.specs.declared.shape.Table.{Table}
use Rattle.lines.specs.declared.refusal.Refusal.{Refusal}
use Rattle.std.specs.Prelude.{ℕ, zero, suc, ◌+◌, ◌*◌, ◌≤◌, ◌<◌, ◌≡◌, Bool, cond, not, List, [], ◌∷◌, ◌++◌, eqb, ltb}
use Rattle.std.specs.Prelude.{length, take, Err, Result, Ok, Option, Some, None}
use Rattle.basics.specs.Bounded.{all, first_that}
use Rattle.basics.specs.Bytes.{not_line_end}
use Rattle.basics.specs.Lists.{written}
use Rattle.basics.specs.Order.{order_number}
use Rattle.basics.specs.Pieces.{Unparted}
use Rattle.lines.specs.declared.refusal.Refusal.TheVariants.{ShortMemory, BadText}
use Rattle.lines.specs.Refusal.{Told, values, refused, told_refusal}
use Rattle.play.specs.Cells.{row_size, stop_cell, table_size, first_cell, is_stop, rank_cell}
use Rattle.printer.specs.Text.{table_text}
use Rattle.wellformed.specs.WellFormed.{RankedRow, Shaped, Printable, Leads, is_ranked}
use Rattle.tables.specs.declared.shape.Shape.{Shape}
use Rattle.loader.specs.Candidate.{shape_in, worst_in, cells_in, print_in}
use Rattle.loader.specs.Difference.{difference}

-- ---- the answer: a text is compared with the print of what it says, and then the ranks are tested

-- what the test of the ranks asks: every row leads to rows of the table
abbrev pub Leading : List ℕ → Shape → Type 0
Leading t shape = (i : ℕ) → i < shape.rows → Leads t shape i

-- row i has ranks that are not as they must be
unfoldable pub misranked : List ℕ → Shape → ℕ → Bool
misranked t shape i = not (is_ranked t shape i)

-- the line of the first such row; none where all are as they must be
unfoldable pub row_fault : List ℕ → Shape → Option ℕ
row_fault t shape = let i = first_that (misranked t shape) shape.rows in cond (ltb i shape.rows) (Some (2 + i)) None

-- the worst case, which line 1 tells, is tested before the rows
unfoldable pub rank_fault : List ℕ → Shape → ℕ → Option ℕ
rank_fault t shape worst = cond (eqb (rank_cell shape.order t 0) worst) (row_fault t shape) (Some 1)

-- a line that differs goes before all ranks
abbrev pub first_fault : Option ℕ → List ℕ → Shape → ℕ → Option ℕ
first_fault (Some place) t shape worst = Some place
first_fault None t shape worst = rank_fault t shape worst

-- the line of the first fault; none where the text is that of a table whose ranks are as they must be
unfoldable pub fault_in : List ℕ → Option ℕ
fault_in s = let shape = shape_in s in first_fault (difference 1 s (print_in s)) (cells_in shape s) shape (worst_in shape.rows s)

-- the answer and the cells to write, by that line
abbrev pub loaded_at : Option ℕ → Shape → ℕ → Result Table Refusal
loaded_at None shape worst = Ok (table_with shape worst)
loaded_at (Some place) shape worst = Err (BadText place)

abbrev pub cells_at : Option ℕ → List ℕ → List ℕ
cells_at None cells = cells
cells_at (Some place) cells = []

-- how many of n cells these are
abbrev pub count_at : Option ℕ → ℕ → ℕ
count_at None n = n
count_at (Some place) n = 0

-- 12 is tested before 17
unfoldable pub loaded_by : ℕ → List ℕ → Result Table Refusal
loaded_by room s =
    let shape = shape_in s in
    cond (ltb room table_size) (Err ShortMemory) (loaded_at (fault_in s) shape (worst_in shape.rows s))

-- what is written, at the front of the table; a refusal writes nothing
unfoldable pub cells_by : ℕ → List ℕ → List ℕ
cells_by room s = cond (ltb room table_size) [] (cells_at (fault_in s) (cells_in (shape_in s) s))

abbrev pub table_after : List ℕ → List ℕ → List ℕ
table_after s table = written (cells_by (length table) s) table

-- in the reference's terms: the row count, the number of observed signals, the order's number and the worst case; or a refusal's number and
-- place
abbrev pub told_loaded : Result Table Refusal → Told
told_loaded (Ok t) = values (t.shape.rows ∷ t.shape.observed ∷ order_number t.shape.order ∷ t.worst_case ∷ [])
told_loaded (Err x) = told_refusal x

-- the used rows of a table, by the answer
abbrev pub used_rows : Result Table Refusal → List ℕ → List ℕ
used_rows (Ok t) table = take (t.shape.rows * row_size t.shape.order) table
used_rows (Err x) table = []

-- ---- what is due

-- a print: a text that the printer makes of a table which it does not refuse
abbrev pub IsPrint : List ℕ → Type 0
IsPrint s = (t : List ℕ) × (shape : Shape) × (worst : ℕ) × Printable t shape worst × (table_text t shape worst ≡ s)

-- the text of a table whatever its ranks
pub record TextOf (s t : List ℕ) (shape : Shape) (worst : ℕ) : Type 0 where
  pub shaped : Shaped t shape worst
  pub text : table_text t shape worst ≡ s

abbrev pub IsText : List ℕ → Type 0
IsText s = (t : List ℕ) × (shape : Shape) × (worst : ℕ) × TextOf s t shape worst

-- the table that a text is the print of: no cells but those of its rows; a text whose rows all stop does not tell the number of observed
-- signals, which then is 0
pub record TableOf (s : List ℕ) (shape : Shape) (worst : ℕ) (cells : List ℕ) : Type 0 where
  pub printable : Printable cells shape worst
  pub prints : table_text cells shape worst ≡ s
  pub exact : length cells ≡ shape.rows * row_size shape.order
  pub untold : ((i : ℕ) → i < shape.rows → first_cell shape.order cells i ≡ stop_cell) → shape.observed ≡ 0

-- the shape that the print of a table tells
abbrev pub told_shape : List ℕ → Shape → Shape
told_shape t shape =
    record { rows = shape.rows; observed = cond (all shape.rows (is_stop shape.order t)) 0 shape.observed; order = shape.order }

-- k lines, each ended by byte 10: none, or one and k - 1 more
abbrev pub Lines : ℕ → List ℕ → Type 0
Lines zero u = u ≡ []
Lines (suc k) u = (l : List ℕ) × (v : List ℕ) × Unparted not_line_end l × Lines k v × (u ≡ l ++ (10 ∷ v))

-- the first k lines of a text are also the first k lines of the text of some table, whatever its ranks
pub record Begins (k : ℕ) (s : List ℕ) : Type 0 where
  pub front : List ℕ
  pub lines : Lines k front
  pub rest : List ℕ
  pub text : s ≡ front ++ rest
  pub other : List ℕ
  pub table : IsText (front ++ other)

-- the line at fault, counted from 1
pub data FaultAt (s : List ℕ) : ℕ → Type 0 where
  -- first in the text, whatever the ranks: one more than the greatest number of leading lines that also begin the text of some table
  bad_line : (¬ IsText s) → (good : ℕ) → Begins good s → ((j : ℕ) → Begins j s → j ≤ good) → FaultAt s (suc good)
  -- then in the ranks: line 1 where the worst case is not the rank of row 0 ..
  bad_worst : (t : List ℕ) (shape : Shape) (worst : ℕ) → TextOf s t shape worst → (¬ (rank_cell shape.order t 0 ≡ worst)) → FaultAt s 1
  -- .. else the line of the first row whose ranks are not as they must be
  bad_rank : (t : List ℕ) (shape : Shape) (worst : ℕ) → TextOf s t shape worst → rank_cell shape.order t 0 ≡ worst
      → (i : ℕ) → i < shape.rows → (¬ RankedRow t shape i) → ((j : ℕ) → j < i → RankedRow t shape j) → FaultAt s (2 + i)

-- for a text to be loaded into so many cells: the answer, and the cells that are written
pub data LoadedAs (room : ℕ) (s : List ℕ) : Told → List ℕ → Type 0 where
  short_memory : room < table_size → LoadedAs room s (refused 12 0) []
  bad_text : table_size ≤ room → (place : ℕ) → FaultAt s place → LoadedAs room s (refused 17 place) []
  table : table_size ≤ room → (shape : Shape) (worst : ℕ) (cells : List ℕ) → TableOf s shape worst cells
      → LoadedAs room s (values (shape.rows ∷ shape.observed ∷ order_number shape.order ∷ worst ∷ [])) cells
