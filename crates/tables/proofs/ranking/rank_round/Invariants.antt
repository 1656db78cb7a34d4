-- `tables::ranking::rank_round` meets its contract. The invariant: the positions passed have their ranks after the round, the others those before.
-- Assumes nothing.
use Rattle.tables.proofs.ranking.RoundLoop.{Halfway}
use Rattle.tables.proofs.ranking.rank_round.Given as goal

abbrev pub invariant-loop-k : goal.invariant-loop-k
invariant-loop-k l =
    Halfway l.order l.arena.count l.arena.choices l.arena.observations l.arena.moves.now l.arena.finals.now l.r l.initial.ranks l.k l.ranks l.more
