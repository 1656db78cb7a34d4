use Rattle.beliefs.proofs.BeliefMemoryLaws.{hidden_none, hidden_more}
use Rattle.beliefs.proofs.believing.add_hidden.Goals as goal

pub loop-h-init : goal.loop-h-init
loop-h-init c =
    hidden_none _ _ _ _ _

pub loop-h-preserved : goal.loop-h-preserved
loop-h-preserved c =
    hidden_more _ _ _ _ c.loop-h.h c.args.belief.now c.loop-h.belief _ _ c.loop-h.invariant c.next.ensures.value c.add_state.ensures
