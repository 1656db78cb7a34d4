-- `search::searching::expand` meets its contract. The invariant: the memory holds the sets that the letters passed lead to, behind
-- those that were there, and the row has their places.
-- Assumes nothing.
use Rattle.search.proofs.searching.ExpandLoop.{Kept}
use Rattle.search.proofs.searching.expand.Given as goal

abbrev pub invariant-loop-a : goal.invariant-loop-a
invariant-loop-a l =
    Kept l.letters l.initial.mem l.i l.n l.present l.a l.m l.mem l.row
