use mathlib.Core.Path.{ap, ◌∙◌}
use Rattle.lines.specs.Memory.{fix_order}
use Rattle.lines.proofs.ordering.ordered.Goals as goal

pub returns : goal.returns
returns c =
    c.fix_order.ensures ∙ ap (λ o. fix_order o c.args.s) c.order_of.ensures
