use native.Mathlib.Omega.{arith}
use mathlib.Core.Path.{◌≡◌, ap, ◌∙◌}
use lib.ListN.{length}
use Rattle.formula.specs.Codes.{parts_in}
use Rattle.formula.specs.Entries.{with_owed}
use Rattle.formula.proofs.evaluate.EntryLoop.{owed_none, owed_more}
use Rattle.formula.proofs.evaluate.owed_back.Goals as goal

pub loop-i-init : goal.loop-i-init
loop-i-init c = owed_none _ _

pub loop-i-preserved : goal.loop-i-preserved
loop-i-preserved c =
    owed_more (parts_in c.args.parts.now) c.args.entries.now c.loop-i.i (omega arith) c.loop-i.entries c.loop-i.invariant _ c.part_at-kind.ensures
    _ _ _ _ c.value_in-v.ensures c.value_in-x.ensures (c.owed_by.ensures 0 (omega arith)) c.entry_of.ensures

pub returns : goal.returns
returns c =
    let all : c.loop-i.i ≡ length c.args.parts.now = omega arith in
    c.loop-i.invariant ∙ ap (λ n. with_owed (parts_in c.args.parts.now) n c.args.entries.now) all
