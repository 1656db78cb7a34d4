use mathlib.Core.Path.{sym, ◌∙◌}
use Rattle.beliefs.proofs.TwinsLaws.{pairs_none, pairs_more, pairs_fails}
use Rattle.beliefs.proofs.twins.same_pairs.Goals as goal

pub loop-s-init : goal.loop-s-init
loop-s-init c =
    pairs_none _ _ _ _ _

pub returns-then-not-same_from : goal.returns-then-not-same_from
returns-then-not-same_from c =
    sym (pairs_fails _ _ _ _ _ _ c.loop-s.s c.loop-s-test.true (sym c.same_from.ensures ∙ c.if-not-same_from.true))

pub loop-s-preserved : goal.loop-s-preserved
loop-s-preserved c =
    pairs_more _ _ _ _ _ c.loop-s.s c.loop-s.invariant (sym c.same_from.ensures ∙ c.if-not-same_from.false)
