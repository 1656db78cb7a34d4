-- `beliefs::believing::add_state` meets its contract.
-- Assumes nothing.
use Rattle.beliefs.proofs.BeliefMemoryLaws.{state_set}
use Rattle.beliefs.proofs.believing.add_state.Goals as goal

pub returns : goal.returns
returns c =
    state_set c.args.belief.now c.args.t
