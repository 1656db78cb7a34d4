use Prim.Native.Nat.{◌+◌, ◌*◌, ◌/◌, ◌-◌}
use native.Mathlib.Omega.{arith}
use mathlib.Core.Path.{sym, ◌∙◌}
use Rattle.search.proofs.sets.SetLoops.{run_none, run_done, slot_more, slot_fails, slot_rest}
use Rattle.search.proofs.sets.same_slot.Goals as goal

pub loop-r-init : goal.loop-r-init
loop-r-init c = run_none _ _ _

pub returns-then-not-same_run : goal.returns-then-not-same_run
returns-then-not-same_run c =
    sym (slot_fails c.args.w c.args.mem.now c.args.n c.args.i (c.loop-r.r * 8) 8 (omega arith) (sym c.same_run.ensures ∙ c.if-not-same_run.true))

pub loop-r-preserved : goal.loop-r-preserved
loop-r-preserved c =
    run_done c.args.mem.now _ _ _ (c.loop-r.r * 8 + 8) (omega arith)
    (slot_more c.args.w c.args.mem.now c.args.n c.args.i (c.loop-r.r * 8) 8 c.loop-r.invariant (sym c.same_run.ensures ∙ c.if-not-same_run.false))

pub returns : goal.returns
returns c =
    c.same_run-2.ensures
    ∙ slot_rest c.args.w c.args.mem.now c.args.n c.args.i (c.args.w / 8 * 8) (c.args.w - c.args.w / 8 * 8) (omega arith)
    (run_done c.args.mem.now _ _ _ (c.loop-r.r * 8) (omega arith) c.loop-r.invariant)
