use mathlib.Core.Path.{sym, ◌∙◌}
use Rattle.wellformed.proofs.WellFormedLaws.{leads_fails}
use Rattle.wellformed.proofs.checking.SizedTable.leads_on.Goals as goal

pub returns-then-not-is_pair : goal.returns-then-not-is_pair
returns-then-not-is_pair c =
    leads_fails _ _ _ c.loop-s.s (rw (← c.next_count-s-end.ensures.value) c.loop-s-test.true) (sym c.is_pair.ensures ∙ c.if-not-is_pair.true)
