-- `ToldShape::put_rows` meets its contract. The invariant: the line of the row begins at the place, and the rows before it are written.
-- Assumes nothing.
use mathlib.Core.Path.{◌≡◌}
use lib.ListN.{length}
use Rattle.loader.proofs.candidate.RowLoop.{RowAt, RowsTo}
use Rattle.loader.proofs.candidate.ToldShape.put_rows.Given as goal

abbrev pub invariant-loop-row : goal.invariant-loop-row
invariant-loop-row l =
    RowAt l.text l.at l.row × (length l.cells ≡ length l.initial.cells) × RowsTo l.self.shape l.text l.initial.cells l.row l.cells
