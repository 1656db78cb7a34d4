-- `records::listing::judge_list` meets its contract, test by test, and by that of `judge_trace`.
-- Assumes nothing.
use native.Mathlib.Omega.{arith}
use mathlib.Core.Path.{sym, ◌∙◌}
use lib.Seq.{length-take-le}
use Rattle.rules.specs.Trace.{counts_of}
use Rattle.records.proofs.JudgingLaws.{few_iff}
use Rattle.records.proofs.listing.judge_list.Goals as goal

pub slice_bounds-judge_trace-end : goal.slice_bounds-judge_trace-end
slice_bounds-judge_trace-end c =
    sym (length-take-le c.args.s.parts c.args.l.codes
    (omega arith))

pub judge_trace-requires : goal.judge_trace-requires
judge_trace-requires c =
    let n = length-take-le c.args.s.parts c.args.l.codes
    (omega arith) in
    let f = (few_iff (counts_of c.args.s)).0 (sym c.few_signals.ensures ∙ c.if-not-few_signals.false) in
    record { parts_nonzero = (omega (arith, n), omega (arith, n)); outputs_le_kind_limit = (f.outputs, f.observed, f.hidden) }
