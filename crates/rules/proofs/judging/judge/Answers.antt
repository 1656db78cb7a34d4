-- `rules::judging::judge` meets its contract, by that of `judge_source`.
-- Assumes nothing.
use mathlib.Core.Path.{◌∙◌}
use Rattle.rules.proofs.JudgeLaws.{short_memory, long_memory}
use Rattle.rules.proofs.judging.judge.Goals as goal

pub returns-then-work-lt-WORK_SIZE : goal.returns-then-work-lt-WORK_SIZE
returns-then-work-lt-WORK_SIZE c =
    let m = short_memory c.args.source.now c.args.work.now c.args.trace.now c.if-work-lt-WORK_SIZE.true in
    record { answer = m.0; cleared = m.1; due = m.2 }

pub returns : goal.returns
returns c =
    let m = long_memory c.args.source.now c.args.work.now c.args.trace.now c.if-work-lt-WORK_SIZE.false c.judge_source-r.result
    c.judge_source-r.ensures in
    record { answer = m.0; cleared = c.fill.ensures.after (λ y e. e) ∙ m.1; due = m.2 }
