-- The whole call: what it answers and leaves is what is due.
-- Assumes nothing.
use Rattle.tables.specs.declared.shape.Table.{Table}
use Rattle.lines.specs.declared.refusal.Refusal.{Refusal}
use Rattle.std.specs.Prelude.{Ok, Err, Result}
use Prim.Native.Nat.{ℕ, ◌*◌, ◌≤◌}
use native.Mathlib.Omega.{arith}
use borrow.Author.Tests.{ltb-false}
use mathlib.Core.Path.{◌≡◌, refl, sym, ap, subst}
use mathlib.Core.Bool.{true, false}
use mathlib.Core.List.{List, []}
use lib.Dec.{ltb}
use lib.ListN.{length, drop, replicate}
use lib.Seq.{take_at}
use Rattle.basics.specs.Lists.{written}
use Rattle.basics.proofs.Booleans.{or_left, or_right}
use Rattle.lines.specs.declared.refusal.Refusal.TheVariants as refusal
use Rattle.lines.specs.Refusal.{refused}
use Rattle.rules.specs.Limits.{work_size}
use Rattle.rules.specs.Problem.{read_problem}
use Rattle.play.specs.Cells.{row_size, table_size}
use Rattle.game.specs.SolvedAs.{is_short, solved_from, solved_by, told_solved, cells_from, cells_by, table_after, work_after, used_rows}
use Rattle.game.specs.SolvedAs.{SolvedAs, short_memory}
use Rattle.game.proofs.SolvedAsLaws.{not_short, short_says, due_read, RowCells, due_cells}

-- ---- the rows that are used are the cells that are due

used_rows_lem : (r : Result Table Refusal) (cells room : List ℕ) → RowCells (told_solved r) cells → used_rows r (written cells room) ≡ cells
used_rows_lem (Ok t) cells room e =
    take_at cells (drop (length cells) room) (t.shape.rows * row_size t.shape.order) (e t.shape.rows t.shape.observed t.worst_case t.shape.order refl)
used_rows_lem (Err x) cells room e = sym e

-- ---- memory that is too short

pub short_right : (source work room : List ℕ) → is_short (length work) (length room) ≡ true
    → (Err refusal.ShortMemory ≡ solved_by (length work) (length room) source) × (room ≡ table_after (length work) source room)
    × (work ≡ work_after (length room) work) × SolvedAs (length work) (length room) source (refused 12 0) []
unfolding solved_by cells_by work_after
short_right source work room e = rw e (refl, refl, refl, short_memory ((short_says (length work) (length room)).0 e))

-- ---- memory that is long enough

module _ (work room : List ℕ) (e : is_short (length work) (length room) ≡ false) where
  pub long_work : 4128 ≤ length work
  long_work = omega (arith, ltb-false (length work) work_size (or_left (ltb (length work) work_size) (ltb (length room) table_size) e))

  pub long_table : table_size ≤ length room
  long_table = omega (arith, ltb-false (length room) table_size (or_right (ltb (length work) work_size) (ltb (length room) table_size) e))

  pub long_right : (source : List ℕ) (r : Result Table Refusal) (room' : List ℕ) → r ≡ solved_from (read_problem source)
      → room' ≡ written (cells_from (read_problem source)) room → (m : ℕ) → m ≡ length work
      → (r ≡ solved_by (length work) (length room) source) × (room' ≡ table_after (length work) source room)
      × (replicate m 0 ≡ work_after (length room) work) × SolvedAs (length work) (length room) source (told_solved r) (used_rows r room')
  unfolding solved_by cells_by work_after
  long_right source r room' p q m l =
      let due = due_read source (length work) (length room) (not_short (length work) (length room) e) in
      rw e (
        p,
        q,
        ap (λ k. replicate k 0) l,
        rw (p, q) (subst (λ c. SolvedAs (length work) (length room) source (told_solved (solved_from (read_problem source))) c)
            (sym (used_rows_lem (solved_from (read_problem source)) (cells_from (read_problem source)) room
            (due_cells (length work) (length room) source (told_solved (solved_from (read_problem source))) (cells_from (read_problem source)) due)))
            due),
      )
