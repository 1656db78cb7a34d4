-- `tables::choosing::best_choice` meets its contract. The invariant: of the choices passed, `best` is the smallest that leads to the lowest rank.
-- Assumes nothing.
use Rattle.tables.proofs.choosing.BestLoop.{Best}
use Rattle.tables.proofs.choosing.best_choice.Given as goal

abbrev pub invariant-loop-c : goal.invariant-loop-c
invariant-loop-c l =
    Best l.arena.moves.now l.ranks l.arena.choices l.k l.s l.c l.best l.least
