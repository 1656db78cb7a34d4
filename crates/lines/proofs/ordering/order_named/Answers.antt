use mathlib.Core.Path.{refl}
use Rattle.lines.specs.Lines.{order_named}
use Rattle.lines.proofs.ordering.order_named.Goals as goal

pub returns-then-same : goal.returns-then-same
unfolding order_named
returns-then-same c =
    rw (← c.same.ensures, c.if-same.true) refl

pub returns-then-same-2 : goal.returns-then-same-2
unfolding order_named
returns-then-same-2 c =
    rw (← c.same.ensures, c.if-same.false, ← c.same-2.ensures, c.if-same-2.true) refl

pub returns : goal.returns
unfolding order_named
returns c =
    rw (← c.same.ensures, c.if-same.false, ← c.same-2.ensures, c.if-same-2.false) refl
