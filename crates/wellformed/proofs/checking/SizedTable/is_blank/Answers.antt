use native.Mathlib.Omega.{arith}
use mathlib.Core.Path.{sym, ◌∙◌}
use Rattle.wellformed.proofs.WellFormedLaws.{blank_none, blank_fails, blank_passes}
use Rattle.wellformed.proofs.checking.SizedTable.is_blank.Goals as goal

pub loop-s-init : goal.loop-s-init
loop-s-init c =
    rw c.next_count-n.ensures.value (blank_none c.args.self.now.cells.now c.args.self.now.shape c.args.row)

pub returns-then-not-is_blank_at : goal.returns-then-not-is_blank_at
returns-then-not-is_blank_at c =
    blank_fails _ _ _ c.loop-s.s (rw (← c.next_count-n.ensures.value) c.loop-s.auto.s) c.loop-s-test.true
    (sym c.is_blank_at.ensures ∙ c.if-not-is_blank_at.true)

pub returns : goal.returns
returns c =
    blank_passes _ _ _ c.loop-s.s (omega (arith, c.next_count-n.ensures.few)) c.loop-s.invariant
