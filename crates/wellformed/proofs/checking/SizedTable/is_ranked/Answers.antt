use mathlib.Core.Path.{sym, ◌∙◌}
use Rattle.wellformed.proofs.WellFormedLaws.{rank_fails}
use Rattle.wellformed.proofs.checking.SizedTable.is_ranked.Goals as goal

pub returns-then-not-is_lower : goal.returns-then-not-is_lower
returns-then-not-is_lower c =
    rank_fails _ _ _ c.loop-s.s (rw (← c.next_count-s-end.ensures.value) c.loop-s-test.true) (sym c.is_lower.ensures ∙ c.if-not-is_lower.true)
