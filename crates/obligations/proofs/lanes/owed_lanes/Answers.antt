-- `obligations::lanes::owed_lanes` meets its contract: a word is its answers.
-- Assumes nothing.
use Rattle.obligations.specs.Words.{owed_lanes}
use Rattle.obligations.proofs.WordsLaws.{lanes_unique}
use Rattle.obligations.proofs.lanes.owed_lanes.Goals as goal

pub returns : goal.returns
unfolding owed_lanes
returns c = lanes_unique _ _ c.owed_by.type_inv c.owed_by.ensures
