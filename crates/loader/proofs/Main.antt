-- The theorems of this crate: loading is the inverse of printing. Assumes nothing.
use Rattle.std.specs.Prelude.{Ok}
use Prim.Native.Nat.{ℕ, suc, ◌*◌, ◌≤◌, ◌<◌}
use mathlib.Core.Path.{◌≡◌}
use mathlib.Core.Logic.{◌↔◌}
use mathlib.Core.List.{List, [], ◌∷◌}
use lib.ListN.{length, take, drop}
use Rattle.tables.specs.Outcome.{table_with}
use Rattle.basics.specs.Order.{order_number}
use Rattle.basics.specs.declared.order.Order.{Order}
use Rattle.lines.specs.Refusal.{Told, values, refused}
use Rattle.play.specs.Cells.{row_size, table_size}
use Rattle.printer.specs.Limits.{text_size}
use Rattle.printer.specs.Text.{table_text}
use Rattle.wellformed.specs.WellFormed.{Printable}
use Rattle.tables.specs.declared.shape.Shape.{Shape}
use Rattle.loader.specs.LoadedAs.{loaded_by, cells_by, table_after, told_loaded, IsPrint, TableOf, told_shape, FaultAt, LoadedAs}
use Rattle.loader.proofs.LoadedIffDue
use Rattle.loader.proofs.LongerText
use Rattle.loader.proofs.SameRows

-- for every text and so many cells the answer, in the reference's terms, and the cells that are written are exactly those that are due: 12, 17
-- with its line, or the table
pub loading : (s : List ℕ) (room : ℕ) (a : Told) (cells : List ℕ)
    → ((told_loaded (loaded_by room s) ≡ a) × (cells_by room s ≡ cells)) ↔ LoadedAs room s a cells
loading = LoadedIffDue.load_iff

module _ (s : List ℕ) (room : ℕ) (enough : table_size ≤ room) where
  -- a text is accepted exactly where it is the print of some table that the printer does not refuse
  pub accepted : ((shape : Shape) × (worst : ℕ) × (loaded_by room s ≡ Ok (table_with shape worst))) ↔ IsPrint s
  accepted = LoadedIffDue.accepted_iff s room enough

  -- and what it is loaded as is the table that it is the print of
  pub loaded : (shape : Shape) (worst : ℕ) (cells : List ℕ)
      → ((loaded_by room s ≡ Ok (table_with shape worst)) × (cells_by room s ≡ cells)) ↔ TableOf s shape worst cells
  loaded = LoadedIffDue.loaded_iff s room enough

  -- 17 is at the line at fault: the first that no table's text has, else the first whose ranks are not as they must be
  pub bad_text : (place : ℕ) → (told_loaded (loaded_by room s) ≡ refused 17 place) ↔ FaultAt s place
  bad_text = LoadedIffDue.fault_iff s room enough

-- a text is the print of one table only
pub one_table : (s : List ℕ) (a b : Shape) (v w : ℕ) (c d : List ℕ) → TableOf s a v c → TableOf s b w d → (a ≡ b) × (v ≡ w) × (c ≡ d)
one_table = LoadedIffDue.one_table

-- the print of a table is that of its rows, and of no more cells; it tells the shape, the order with it, but for signals that no row shows
pub printed_table : (t : List ℕ) (shape : Shape) (worst : ℕ) → Printable t shape worst
    → TableOf (table_text t shape worst) (told_shape t shape) worst (take (shape.rows * row_size shape.order) t)
printed_table = SameRows.table_of_print

-- a refusal leaves the table as it was, and an answer all behind its rows
pub table_kept : (s t : List ℕ) (number place : ℕ) → told_loaded (loaded_by (length t) s) ≡ refused number place → table_after s t ≡ t
table_kept = LoadedIffDue.table_kept

pub table_rest : (s t : List ℕ) (n observed r : ℕ) (o : Order)
    → told_loaded (loaded_by (length t) s) ≡ values (n ∷ observed ∷ order_number o ∷ r ∷ [])
    → drop (n * row_size o) (table_after s t) ≡ drop (n * row_size o) t
table_rest = LoadedIffDue.table_rest

-- a text that is longer than a print can be is answered as its beginning is, one byte more than that
pub longer_text : (s : List ℕ) → text_size < length s → (room : ℕ)
    → (told_loaded (loaded_by room (take (suc text_size) s)) ≡ told_loaded (loaded_by room s)) × (cells_by room (take (suc text_size) s) ≡ cells_by room s)
longer_text = LongerText.longer_alike
