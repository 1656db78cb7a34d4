-- Where a cabinet may stand, and what a move from there asks.
-- Assumes nothing.
use Prim.Native.Nat.{ℕ, ◌^◌, ◌<◌}
use native.Mathlib.Nat.{lt_of_lt_of_le}
use mathlib.Core.Path.{◌≡◌}
use mathlib.Core.Bool.{true}
use mathlib.Core.List.{List}
use lib.ListN.{length}
use Rattle.basics.specs.declared.order.Order.{Order}
use Rattle.basics.specs.declared.order.Order.TheVariants.{Set, Read}
use Rattle.play.specs.Limits.{side_limit}
use Rattle.play.specs.Cells.{stop_cell, first_cell, next_cell}
use Rattle.tables.specs.declared.shape.Shape.{Shape}
use Rattle.basics.specs.Says.{Says}
use Rattle.basics.proofs.SaysLaws.{says_and, says_true, lt_says, eqb_says}
use Rattle.stepping.specs.declared.position.Position.{Position}
use Rattle.wellformed.specs.WellFormed.{Sized, GoodRow}
use Rattle.stepping.specs.Position.{is_standing, is_held, is_holding, Standing, Held, Holds}
use Rattle.wellformed.proofs.WellFormedLaws.{side_le}
use Rattle.wellformed.proofs.TestsSay.{sized_says, row_says}

module _ (t : List ℕ) (shape : Shape) (row : ℕ) where
  three : Says (is_standing t shape row) ((Sized (length t) shape × (row < shape.rows)) × GoodRow t shape row)
  three = says_and (says_and (sized_says (length t) shape) (lt_says row shape.rows)) (row_says t shape row)

  pub standing_says : Says (is_standing t shape row) (Standing t shape row)
  standing_says = (
    λ e. let p = three.0 e in record { sized = p.0.0; inside = p.0.1; good = p.1 },
    λ w. three.1 ((w.sized, w.inside), w.good),
  )

held_says : (o : Order) (t : List ℕ) (p : Position) → Says (is_held o t p) (Held o t p)
held_says Set t p = eqb_says (first_cell Set t p.row) p.choice
held_says Read t p = says_true

module _ (t : List ℕ) (shape : Shape) (p : Position) where
  pub holding_says : Says (is_holding t shape p) (Holds t shape p)
  holding_says = says_and (standing_says t shape p.row) (held_says shape.order t p)

  -- what the move for an observation asks, on no stop row
  module _ (e : is_holding t shape p ≡ true) (n : ¬ (first_cell shape.order t p.row ≡ stop_cell)) (observation : ℕ)
      (h : observation < 2 ^ shape.observed) where
    pub in_side : observation < side_limit
    in_side = lt_of_lt_of_le h (side_le shape.observed (holding_says.0 e).0.sized.seen)

    pub next_in : next_cell shape.order t p.row observation < shape.rows
    next_in = ((holding_says.0 e).0.good.formed.goes observation (n, h)).next
