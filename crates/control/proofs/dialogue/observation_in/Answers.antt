-- `control::dialogue::observation_in` meets its contract: the number's digits are put, and compared with the line.
-- Assumes nothing.
use native.Mathlib.Omega.{arith}
use mathlib.Core.Path.{refl, sym, ◌∙◌}
use lib.Seq.{length-take-le}
use Rattle.control.proofs.DialogueLaws.{digits_fit, digits_within, same_digits, other_digits}
use Rattle.control.proofs.dialogue.observation_in.Goals as goal

pub decimal-requires : goal.decimal-requires
decimal-requires c =
    omega (arith, digits_fit c.args.line.now c.number_below-n.result c.number_below-n.ensures)

pub slice_bounds-same-end : goal.slice_bounds-same-end
slice_bounds-same-end c =
    sym (length-take-le _ _ (digits_within c.args.line.now c.number_below-n.result c.number_below-n.ensures refl refl c.decimal.ensures))

pub returns-then-same : goal.returns-then-same
returns-then-same c =
    same_digits c.args.line.now c.number_below-n.result c.number_below-n.ensures refl refl c.decimal.ensures (sym c.same.ensures ∙ c.if-same.true)

pub returns : goal.returns
returns c =
    other_digits c.args.line.now c.number_below-n.result c.number_below-n.ensures refl refl c.decimal.ensures (sym c.same.ensures ∙ c.if-same.false)
