-- What the whole call leaves in lent memory, case by case.
-- Assumes nothing.
use Prim.Native.Nat.{ℕ, ◌*◌}
use mathlib.Core.Path.{◌≡◌, refl, ap, subst}
use mathlib.Core.List.{List, [], ◌∷◌}
use lib.ListN.{length, drop, replicate}
use Rattle.basics.specs.Lists.{written}
use Rattle.basics.proofs.ListsLaws.{written_rest}
use Rattle.lines.specs.Refusal.{values, refused}
use Rattle.basics.specs.declared.order.Order.{Order}
use Rattle.basics.specs.Order.{order_number}
use Rattle.play.specs.Cells.{row_size}
use Rattle.game.specs.SolvedAs.{told_by, cells_by, table_after, work_after, Short}
use Rattle.game.proofs.SolvedAsLaws.{short_says, is_long, due_call, RowCells, due_cells}

-- work memory: as it was where memory is too short, and all zero otherwise
module _ (table : ℕ) (w : List ℕ) where
  pub work_kept : Short (length w) table → work_after table w ≡ w
  unfolding work_after
  work_kept s = rw ((short_says (length w) table).1 s) refl

  pub work_cleared : (¬ Short (length w) table) → work_after table w ≡ replicate (length w) 0
  unfolding work_after
  work_cleared s = rw (is_long (length w) table s) refl

-- the table: as it was after any refusal, and behind its rows
pub table_kept : (work : ℕ) (source t : List ℕ) (number place : ℕ) → told_by work (length t) source ≡ refused number place → table_after work source t ≡ t
table_kept work source t number place e =
    let none : cells_by work (length t) source ≡ [] =
    subst (λ a. RowCells a (cells_by work (length t) source)) e (due_cells work (length t) source _ _ (due_call source work (length t))) in
    ap (λ c. written c t) none

pub table_rest : (work : ℕ) (source t : List ℕ) (n observed r : ℕ) (o : Order)
    → told_by work (length t) source ≡ values (n ∷ observed ∷ order_number o ∷ r ∷ [])
    → drop (n * row_size o) (table_after work source t) ≡ drop (n * row_size o) t
table_rest work source t n observed r o e =
    written_rest (cells_by work (length t) source) t (n * row_size o)
    (subst (λ a. RowCells a (cells_by work (length t) source)) e (due_cells work (length t) source _ _ (due_call source work (length t))) n observed r o refl)
