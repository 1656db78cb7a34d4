-- `rules::judging::judge_source` meets its contract, by those of `read` and `judge_trace`.
-- Assumes nothing.
use native.Mathlib.Omega.{arith}
use mathlib.Core.Path.{sym, ◌∙◌}
use Rattle.basics.proofs.HandedOn.{handed_on}
use Rattle.rules.specs.Problem.{read_problem}
use Rattle.rules.proofs.JudgeLaws.{refused_source, taken, taken_length, some_parts, few_parts, few_signals, judged_source}
use Rattle.rules.proofs.judging.judge_source.Goals as goal

pub slice_bounds-parts-end : goal.slice_bounds-parts-end
slice_bounds-parts-end c =
    let t = taken c.args.source.now _ _ c.read.ensures.value c.in_ok-s.was _ c.read.ensures.parts_after in
    omega (arith, few_parts t, c.read.auto.parts)

pub slice_bounds-judge_trace-end : goal.slice_bounds-judge_trace-end
slice_bounds-judge_trace-end c =
    sym (taken_length (taken c.args.source.now _ _ c.read.ensures.value c.in_ok-s.was _ c.read.ensures.parts_after))

pub judge_trace-requires : goal.judge_trace-requires
judge_trace-requires c =
    let t = taken c.args.source.now _ _ c.read.ensures.value c.in_ok-s.was _ c.read.ensures.parts_after in
    record { parts_nonzero = (some_parts t, omega (arith, taken_length t, few_parts t)); outputs_le_kind_limit = few_signals t }

pub returns-in_err-s : goal.returns-in_err-s
returns-in_err-s c =
    handed_on _ c.in_err-s.field-0.0 c.from_residual.ensures.1
    ∙ refused_source (read_problem c.args.source.now) c.args.trace.now _ _ c.read.ensures.value c.in_err-s.was

pub returns : goal.returns
returns c =
    let t = taken c.args.source.now _ _ c.read.ensures.value c.in_ok-s.was _ c.read.ensures.parts_after in
    judged_source t _ _ c.judge_trace.ensures
