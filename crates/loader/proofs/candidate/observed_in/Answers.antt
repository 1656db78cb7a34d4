use native.Mathlib.Omega.{arith}
use mathlib.Core.Path.{sym, ◌∙◌}
use Rattle.loader.proofs.CandidateLaws.{observed_here, observed_less, observed_none}
use Rattle.loader.proofs.candidate.observed_in.Goals as goal

pub returns-then-field-gt0 : goal.returns-then-field-gt0
returns-then-field-gt0 c =
    observed_here c.args.order c.loop-k.k c.args.line.now _ c.loop-k.auto.k c.loop-k-test.true _ c.shown_count-last.ensures c.field.ensures
    c.if-field-gt0.true ∙ sym c.loop-k.invariant

pub loop-k-preserved : goal.loop-k-preserved
loop-k-preserved c =
    c.loop-k.invariant
    ∙ observed_less c.args.order c.loop-k.k c.args.line.now _ c.loop-k.auto.k c.loop-k-test.true _ c.shown_count-last.ensures
    c.field.ensures c.if-field-gt0.false

pub returns : goal.returns
returns c =
    observed_none c.args.order c.loop-k.k c.args.line.now (omega arith) ∙ sym c.loop-k.invariant
