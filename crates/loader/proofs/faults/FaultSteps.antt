-- The first fault, in the shape in which the code looks for it.
-- Assumes nothing.
use Prim.Native.Nat.{ℕ, ◌+◌, ◌<◌}
use Rattle.std.specs.Prelude.{Some, None}
use mathlib.Core.Path.{◌≡◌, sym, ap, ◌∙◌}
use mathlib.Core.Bool.{Bool, true, false, not}
use mathlib.Core.List.{List}
use Rattle.basics.specs.Bounded.{first_that}
use Rattle.basics.proofs.BoundedLaws.{first_none, first_more, first_found, first_end}
use Rattle.wellformed.specs.WellFormed.{is_ranked}
use Rattle.tables.specs.declared.shape.Shape.{Shape}
use Rattle.loader.specs.LoadedAs.{misranked, row_fault}
use Rattle.loader.proofs.FaultLaws.{row_here, row_none}

module _ (t : List ℕ) (shape : Shape) where
  -- the rows before this one are as they must be
  abbrev pub RightTo : ℕ → Type 0
  RightTo row = first_that (misranked t shape) row ≡ row

  pub right_none : RightTo 0
  right_none = first_none (misranked t shape)

  module _ (row : ℕ) (so_far : RightTo row) where
    module _ (b : Bool) (e : b ≡ is_ranked t shape row) where
      is_misranked : (c : Bool) → not b ≡ c → misranked t shape row ≡ c
      unfolding misranked
      is_misranked c f = ap not (sym e) ∙ f

      pub right_more : not b ≡ false → RightTo (row + 1)
      right_more f = first_more (misranked t shape) row so_far (is_misranked false f)

      pub row_found : row < shape.rows → not b ≡ true → Some (2 + row) ≡ row_fault t shape
      row_found h f = sym (row_here t shape row h (first_found (misranked t shape) shape.rows row h so_far (is_misranked true f)))

    pub rows_right : row ≡ shape.rows → None ≡ row_fault t shape
    rows_right e = sym (row_none t shape (sym (first_end (misranked t shape) shape.rows row e so_far)))
