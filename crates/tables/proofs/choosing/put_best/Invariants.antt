-- `tables::choosing::put_best` meets its contract. The invariant: the observations passed have their best choices.
-- Assumes nothing.
use Rattle.tables.proofs.choosing.BestLoop.{Chosen}
use Rattle.tables.proofs.choosing.put_best.Given as goal

abbrev pub invariant-loop-s : goal.invariant-loop-s
invariant-loop-s l =
    Chosen l.arena.moves.now l.ranks l.arena.choices l.arena.observations l.k l.initial.answers l.s l.answers
