use native.Mathlib.Omega.{arith}
use mathlib.Core.Path.{◌∙◌}
use lib.ListN.{length}
use Rattle.formula.proofs.evaluate.EntryLoop.{entries_end, entries_step}
use Rattle.formula.proofs.evaluate.+entries_at.Goals as goal

pub returns-then-t-trace : goal.returns-then-t-trace
returns-then-t-trace t c =
    c.fill.ensures.after (λ y e. e) ∙ entries_end c.args.parts.now (length c.args.entries.now) c.args.trace.now c.args.t c.if-t-trace.true

pub entries_at-requires : goal.entries_at-requires
entries_at-requires t c =
    (omega arith, (omega arith, c.requires.parts_in_bounds))

pub returns : goal.returns
returns t c =
    entries_step c.args.parts.now (length c.args.entries.now) c.args.trace.now c.args.t (omega arith) c.requires.parts_in_bounds.0 _ _ _
    c.entries_at.ensures c.values_back.ensures c.owed_back.ensures
