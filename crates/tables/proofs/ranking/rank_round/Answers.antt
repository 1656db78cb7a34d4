use mathlib.Core.Path.{refl}
use Rattle.tables.specs.PositionMemory.{ranks_below}
use Rattle.tables.proofs.ranking.RoundLoop.{ranked_stays, none_stays, gets_rank}
use Rattle.tables.proofs.ranking.rank_round.Goals as goal
use Rattle.tables.proofs.ranking.rank_round.Goals.{else-ranks-k, then-ranks-k+else-can_lead, then-ranks-k+then-can_lead}

pub loop-k-init : goal.loop-k-init
unfolding ranks_below
loop-k-init c =
    (refl, refl)

pub loop-k-preserved : goal.loop-k-preserved
loop-k-preserved c =
    elim c.if-ranks-k.branch [
      | then-ranks-k+then-can_lead t ↦ gets_rank _ _ _ _ _ _ _ _ c.args.arena.now.positions c.requires.r_nonzero c.requires.r_lt_no_rank c.told-ranks c.requires.ranks_value _ c.loop-k-test.true _ _ c.loop-k.invariant
          t.if-ranks-k.true _ t.can_lead.ensures t.if-can_lead.true _ _ t.ranks-is t.more-is
      | then-ranks-k+else-can_lead t ↦ none_stays _ _ _ _ _ _ _ _ c.args.arena.now.positions c.requires.r_nonzero c.requires.r_lt_no_rank c.told-ranks c.requires.ranks_value _ c.loop-k-test.true _ _ c.loop-k.invariant
          t.if-ranks-k.true _ t.can_lead.ensures t.if-can_lead.false _ _ t.ranks-is t.more-is
      | else-ranks-k t ↦ ranked_stays _ _ _ _ _ _ _ _ c.args.arena.now.positions c.requires.r_nonzero c.requires.r_lt_no_rank c.told-ranks c.requires.ranks_value _ c.loop-k-test.true _ _ c.loop-k.invariant t.if-ranks-k.false _ _ t.ranks-is t.more-is
    ]
