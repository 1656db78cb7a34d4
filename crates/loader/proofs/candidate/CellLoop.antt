-- The cells of a row are written one after another.
-- Assumes nothing.
use Prim.Native.Nat.{ℕ, ◌+◌, ◌*◌, ◌≤◌, ◌<◌}
use native.Mathlib.Omega.{arith}
use mathlib.Core.Path.{◌≡◌, sym, ap, ◌∙◌}
use mathlib.Core.List.{List}
use lib.ListN.{length, get_or, set}
use lib.Seq.{sets, paste}
use Rattle.basics.proofs.Stores.{paste_more, paste_all}
use Rattle.play.specs.Cells.{row_size}
use Rattle.tables.specs.declared.shape.Shape.{Shape}
use Rattle.loader.specs.Candidate.{row_in}
use Rattle.loader.proofs.CandidateLaws.{row_length}

module _ (shape : Shape) (line cells₀ : List ℕ) (row size : ℕ) (is_size : size ≡ row_size shape.order)
    (room : row * row_size shape.order + row_size shape.order ≤ length cells₀) where
  abbrev cells : List ℕ
  cells = row_in shape line

  ends : row * size + length cells ≤ length cells₀
  ends = rw (is_size, row_length shape line) room

  module _ (i : ℕ) (w : List ℕ) (so_far : w ≡ paste cells₀ (row * size) cells i) where
    pub cell_more : i < size → (x : ℕ) → x ≡ get_or cells i 0 → set w (row * size + i) x ≡ paste cells₀ (row * size) cells (i + 1)
    cell_more h x e =
        ap (set w (row * size + i)) e ∙ paste_more cells₀ (row * size) cells i ends (omega (arith, row_length shape line)) w so_far

    pub cells_all : i ≡ size → w ≡ sets cells₀ (row * row_size shape.order) cells
    cells_all e =
        paste_all cells₀ (row * size) cells i ends (e ∙ is_size ∙ sym (row_length shape line)) w so_far
        ∙ ap (λ k. sets cells₀ (row * k) cells) is_size
