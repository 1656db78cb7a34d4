use Prim.Native.Nat.{◌<◌}
use native.Mathlib.Omega.{arith}
use Rattle.search.specs.Limits.{state_limit}
use Rattle.beliefs.proofs.believing.MemberLoop.{present_true, present_false}
use Rattle.beliefs.proofs.believing.MemberLoop.{gathered_none, gathered_there, gathered_not, gathered_all}
use Rattle.beliefs.proofs.believing.put_members.Goals as goal
use Rattle.beliefs.proofs.believing.put_members.Goals.{else-mem-at-eq1, then-mem-at-eq1}

pub loop-s-init : goal.loop-s-init
loop-s-init c =
    gathered_none _ _ (omega arith)

pub loop-s-preserved : goal.loop-s-preserved
loop-s-preserved c =
    let inside : c.loop-s.s < state_limit = omega arith in
    elim c.if-mem-at-eq1.branch [ then-mem-at-eq1 w ↦ gathered_there c.loop-s.invariant inside (omega arith) (present_true c.args.mem.now c.args.i c.loop-s.s w.if-mem-at-eq1.true) _ _ w.members-is w.c-is | else-mem-at-eq1 w ↦ gathered_not c.loop-s.invariant (present_false c.args.mem.now c.args.i c.loop-s.s w.if-mem-at-eq1.false) _ _ w.members-is w.c-is ]

pub returns : goal.returns
returns c =
    let whole = gathered_all c.args.mem.now c.args.i c.args.n c.loop-s.invariant (omega arith) c.requires.n_le_state_limit in
    record { value = whole.0; members_after = whole.1.0; members = whole.1.1.0; result_after = whole.1.1.1 }
