-- The lines of the rows one after another: the first that goes on, and the cells that are made of them.
-- Assumes nothing.
use Prim.Native.Nat.{ℕ, suc, ◌+◌, ◌*◌, ◌≤◌, ◌<◌}
use native.Mathlib.Omega.{arith}
use mathlib.Core.Path.{◌≡◌, refl, sym, ap, ap₂, subst, ◌∙◌}
use mathlib.Core.Bool.{Bool, true, not}
use mathlib.Core.List.{List, flat_map}
use lib.ListN.{length, drop}
use lib.Seq.{sets}
use Rattle.basics.specs.Bounded.{first_that}
use Rattle.basics.specs.Bytes.{not_line_end}
use Rattle.basics.specs.Lists.{below, written}
use Rattle.basics.specs.Pieces.{piece, behind, behind_all, line_at}
use Rattle.basics.proofs.BoundedLaws.{first_found}
use Rattle.basics.proofs.PiecesLaws.{behind_more}
use Rattle.basics.proofs.Stores.{sets_append, put_front}
use Rattle.basics.proofs.TextLaws.{flat_more}
use Rattle.play.specs.Cells.{row_size}
use Rattle.tables.specs.declared.shape.Shape.{Shape}
use Rattle.loader.specs.Candidate.{says_stop, row_in, goes_on, cells_in}
use Rattle.loader.proofs.CandidateLaws.{rows_length}

-- ---- their places

module _ (text : List ℕ) where
  -- the line of row i begins at a place
  abbrev pub RowAt : ℕ → ℕ → Type 0
  RowAt at i = (at ≤ length text) × (drop at text ≡ behind_all not_line_end (suc i) text)

  module _ (at i : ℕ) (here : RowAt at i) where
    pub row_next : (r : ℕ) → (r ≤ length text) × (drop r text ≡ behind not_line_end (drop at text)) → RowAt r (i + 1)
    row_next r (h, e) = (h, e ∙ ap (behind not_line_end) here.1 ∙ sym (behind_more not_line_end i (behind not_line_end text)))

    module _ (l : List ℕ) (is : l ≡ piece not_line_end (drop at text)) where
      pub row_line : l ≡ line_at (suc i) text
      row_line = is ∙ ap (piece not_line_end) here.1

      pub row_goes : (b : Bool) → b ≡ says_stop l → goes_on text i ≡ not b
      unfolding goes_on
      row_goes b e = ap not (sym (e ∙ ap says_stop row_line))

    -- it is the first that goes on, or behind the rows
    module _ (rows : ℕ) (none : first_that (goes_on text) i ≡ i) where
      pub move_here : i < rows → goes_on text i ≡ true → RowAt at (first_that (goes_on text) rows)
      move_here h t = subst (RowAt at) (sym (first_found (goes_on text) rows i h none t)) here

-- ---- their cells

module _ (shape : Shape) (text : List ℕ) where
  abbrev row_of : ℕ → List ℕ
  row_of i = row_in shape (line_at (suc i) text)

  -- the cells of the first n rows
  unfoldable pub cells_to : ℕ → List ℕ
  cells_to n = flat_map row_of (below n)

  cells_length : (n : ℕ) → length (cells_to n) ≡ n * row_size shape.order
  unfolding cells_to
  cells_length n = rows_length shape text n

  module _ (cells₀ : List ℕ) where
    -- the first i rows are written
    abbrev pub RowsTo : ℕ → List ℕ → Type 0
    RowsTo i cells = cells ≡ sets cells₀ 0 (cells_to i)

    pub rows_none : RowsTo 0 cells₀
    unfolding cells_to flat_map
    rows_none = refl

    pub rows_more : (i : ℕ) (cells : List ℕ) → RowsTo i cells → (l after : List ℕ) → l ≡ line_at (suc i) text
        → after ≡ sets cells (i * row_size shape.order) (row_in shape l) → RowsTo (i + 1) after
    unfolding cells_to
    rows_more i cells so_far l after is e =
        let place : i * row_size shape.order ≡ 0 + length (cells_to i) = omega (arith, cells_length i) in
        e ∙ ap (λ x. sets cells (i * row_size shape.order) (row_in shape x)) is
        ∙ ap₂ (λ x k. sets x k (row_of i)) so_far place
        ∙ sym (sets_append cells₀ 0 (cells_to i) (row_of i)) ∙ ap (sets cells₀ 0) (sym (flat_more row_of i (λ k. k)))

    module _ (room : shape.rows * row_size shape.order ≤ length cells₀) (i : ℕ) (cells : List ℕ) (so_far : RowsTo i cells) where
      pub rows_all_lem : i ≡ shape.rows → cells ≡ written (cells_in shape text) cells₀
      unfolding cells_to cells_in
      rows_all_lem e =
          so_far ∙ ap (λ k. sets cells₀ 0 (cells_to k)) e
          ∙ put_front (cells_to shape.rows) cells₀ (omega (arith, cells_length shape.rows))
