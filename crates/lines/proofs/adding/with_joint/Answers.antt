-- `lines::adding::with_joint` meets its contract.
-- Assumes nothing.
use Rattle.lines.proofs.adding.Joint.{joint_none, joint_some}
use Rattle.lines.proofs.adding.with_joint.Goals as goal

pub returns-then-n-eq0 : goal.returns-then-n-eq0
returns-then-n-eq0 c =
    joint_none _ _ c.if-n-eq0.true

pub returns-else-n-eq0 : goal.returns-else-n-eq0
returns-else-n-eq0 c =
    joint_some _ _ c.if-n-eq0.false
