use Rattle.beliefs.proofs.TwinsLaws.{from_none, from_more, from_fails}
use mathlib.Core.Path.{sym}
use Rattle.beliefs.proofs.twins.same_from.Goals as goal

pub loop-h-init : goal.loop-h-init
loop-h-init c =
    from_none _ _ _ _ _

pub returns-then-next : goal.returns-then-next
returns-then-next c =
    sym (from_fails _ _ _ _ _ _ c.loop-h.h c.loop-h-test.true _ _ c.next.ensures.value c.next-in-loop-h.ensures.value c.if-next.true)

pub loop-h-preserved : goal.loop-h-preserved
loop-h-preserved c =
    from_more _ _ _ _ _ c.loop-h.h c.loop-h.invariant _ _ c.next.ensures.value c.next-in-loop-h.ensures.value c.if-next.false
