use mathlib.Core.Path.{refl}
use Rattle.tables.proofs.ranking.RoundLoop.{ranks_first, round_last}
use Rattle.tables.proofs.ranking.rank_all.Goals as goal

pub loop-r-init : goal.loop-r-init
loop-r-init c = (
  ranks_first c.args.order c.args.arena.now.count c.args.arena.now.choices c.args.arena.now.observations c.args.arena.now.moves.now c.args.arena.now.finals.now _ _ c.rank_finals.ensures,
  refl,
)

pub returns-then-not-rank_round : goal.returns-then-not-rank_round
returns-then-not-rank_round c =
    round_last c.args.order c.args.arena.now.count c.args.arena.now.choices c.args.arena.now.observations c.args.arena.now.moves.now c.args.arena.now.finals.now _ _ c.loop-r.invariant.1 _ c.rank_finals.ensures
    c.args.arena.now.positions c.loop-r.r c.loop-r.auto.r c.loop-r-test.true _ c.rank_round.ensures.value (c.if-not-rank_round.true) _ c.rank_round.ensures.ranks_after
