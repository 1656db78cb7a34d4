use native.Mathlib.Omega.{arith}
use mathlib.Core.Path.{sym}
use Rattle.search.proofs.sets.SetLoops.{run_none, run_more, run_fails, run_done}
use Rattle.search.proofs.sets.same_run.Goals as goal

pub loop-y-init : goal.loop-y-init
loop-y-init c = run_none _ _ _

pub returns-then-mem-a : goal.returns-then-mem-a
returns-then-mem-a c = sym (run_fails c.args.mem.now c.args.a c.args.b c.args.k c.loop-y.y c.loop-y-test.true c.if-mem-a.true)

pub loop-y-preserved : goal.loop-y-preserved
loop-y-preserved c = run_more c.args.mem.now c.args.a c.args.b c.loop-y.y c.loop-y.invariant c.if-mem-a.false

pub returns : goal.returns
returns c = sym (run_done c.args.mem.now c.args.a c.args.b c.args.k c.loop-y.y (omega arith) c.loop-y.invariant)
