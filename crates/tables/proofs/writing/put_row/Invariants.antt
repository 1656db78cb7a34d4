-- `tables::writing::put_row` meets its contract. The invariant: the next positions of the observations passed are among the rows, and
-- the cells have their choices and numbers.
-- Assumes nothing.
use Rattle.tables.proofs.writing.RowLoop.{Adding}
use Rattle.tables.proofs.writing.put_row.Given as goal

abbrev pub invariant-loop-s : goal.invariant-loop-s
invariant-loop-s l =
    Adding l.order l.arena.moves.now l.answers l.arena.choices l.arena.observations l.k l.m l.initial.rows l.s l.n l.rows l.cells
