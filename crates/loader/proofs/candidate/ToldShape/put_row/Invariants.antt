-- `ToldShape::put_row` meets its contract. The invariant: the first i cells are written.
-- Assumes nothing.
use mathlib.Core.Path.{◌≡◌}
use lib.ListN.{length}
use lib.Seq.{paste}
use Rattle.loader.specs.Candidate.{row_in}
use Rattle.loader.proofs.candidate.ToldShape.put_row.Given as goal

abbrev pub invariant-loop-i : goal.invariant-loop-i
invariant-loop-i l =
    (length l.cells ≡ length l.initial.cells) × (l.cells ≡ paste l.initial.cells l.at (row_in l.self.shape l.line) l.i)
