-- `lines::adding::join` meets its contract.
-- Assumes nothing.
use native.Mathlib.Omega.{arith}
use Rattle.lines.proofs.adding.Joint.{joint_some, join_none, join_some}
use Rattle.lines.proofs.adding.join.Goals as goal

pub returns-then-n-eq0 : goal.returns-then-n-eq0
returns-then-n-eq0 c =
    join_none _ _ _ c.if-n-eq0.true

pub bounds-parts-count : goal.bounds-parts-count
bounds-parts-count c =
    omega (arith, joint_some c.args.n c.args.count c.if-n-eq0.false)

pub returns : goal.returns
returns c =
    join_some _ _ _ c.if-n-eq0.false c.requires.0
