use Rattle.beliefs.proofs.believing.MemberLoop.{after_start, after_more}
use Rattle.beliefs.proofs.believing.after_members.Goals as goal

pub loop-s-init : goal.loop-s-init
loop-s-init c =
    after_start _ _ _ _ _

pub loop-s-preserved : goal.loop-s-preserved
loop-s-preserved c =
    after_more _ _ _ _ _ c.loop-s.s-index c.loop-s.belief _ c.loop-s.invariant c.add_hidden.ensures
