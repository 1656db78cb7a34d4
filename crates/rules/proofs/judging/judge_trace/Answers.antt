-- `rules::judging::judge_trace` meets its contract, by those of `bad_step` and `holds_on`.
-- Assumes nothing.
use mathlib.Core.Path.{sym, ◌∙◌}
use Rattle.rules.specs.Trace.{counts_of}
use Rattle.rules.proofs.TraceLaws.{verdict_length, verdict_step, verdict_judged}
use Rattle.rules.proofs.judging.judge_trace.Goals as goal

pub returns-then-steps : goal.returns-then-steps
returns-then-steps c =
    sym (verdict_length (counts_of c.args.s) c.args.trace.now _ c.if-steps.true)

pub returns-in-Some : goal.returns-in-Some
returns-in-Some c =
    sym (verdict_step (counts_of c.args.s) c.args.trace.now _ _ c.if-steps.false (sym c.bad_step.ensures ∙ c.in-Some.is))

pub returns : goal.returns
returns c =
    sym (verdict_judged (counts_of c.args.s) c.args.trace.now _ _ c.if-steps.false (λ n e. c.in_default.not-Some n (c.bad_step.ensures ∙ e)) c.holds_on.ensures.value)
