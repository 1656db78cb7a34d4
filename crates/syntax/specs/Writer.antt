-- Cells written one behind another.
-- Assumes nothing.
use Rattle.std.specs.Prelude.{◌≡◌, ℕ, ◌+◌, List, length}
use Rattle.std.proofs.lemmas.List.Edits.{sets}
use Rattle.syntax.specs.declared.writer.Writer.{Writer}

-- from w to v the cells cs are written, to the same slice
pub record Writes (w v : Writer) (cs : List ℕ) : Type 0 where
  pub at : v.at ≡ w.at + length cs
  pub cells : v.cells.now ≡ sets w.cells.now w.at cs
  pub same : v.cells.ghost_name ≡ w.cells.ghost_name
