-- `obligations::lanes::obligation_lanes` meets its contract: the six words of a block by computation, and the rest by the one answer of a block.
-- Assumes nothing.
use Rattle.obligations.proofs.WordsLaws.{obligation_low, obligation_high}
use Rattle.obligations.proofs.lanes.obligation_lanes.Goals as goal

pub returns-then-k-lt-LOW : goal.returns-then-k-lt-LOW
returns-then-k-lt-LOW c = obligation_low c.args.k c.args.w c.if-k-lt-LOW.true

pub returns-else-k-lt-LOW : goal.returns-else-k-lt-LOW
returns-else-k-lt-LOW c = obligation_high _ _ _ c.if-k-lt-LOW.false c.all.type_inv c.all.ensures
