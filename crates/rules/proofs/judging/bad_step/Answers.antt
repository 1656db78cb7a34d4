use Prim.Native.Nat.{◌<◌}
use native.Mathlib.Omega.{arith}
use mathlib.Core.Path.{sym, ◌∙◌}
use lib.ListN.{length}
use Rattle.rules.specs.Trace.{counts_of}
use Rattle.rules.proofs.TraceLaws.{bad_end, bad_more, bad_here}
use Rattle.rules.proofs.judging.bad_step.Goals as goal

pub returns-then-not-is_letter : goal.returns-then-not-is_letter
returns-then-not-is_letter c =
    let h : c.loop-i.i < length c.args.trace.now = omega arith in
    sym (c.loop-i.invariant ∙ bad_here (counts_of c.args.s) c.args.trace.now c.loop-i.i h c.is_letter.result c.is_letter.ensures c.if-not-is_letter.true)

pub loop-i-preserved : goal.loop-i-preserved
loop-i-preserved c =
    let h : c.loop-i.i < length c.args.trace.now = omega arith in
    c.loop-i.invariant ∙ bad_more (counts_of c.args.s) c.args.trace.now c.loop-i.i h c.is_letter.result c.is_letter.ensures c.if-not-is_letter.false

pub returns : goal.returns
returns c =
    sym (c.loop-i.invariant ∙ bad_end (counts_of c.args.s) c.args.trace.now c.loop-i.i (omega arith))
