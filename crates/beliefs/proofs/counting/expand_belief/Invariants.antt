-- `beliefs::counting::expand_belief` meets its contract. The invariant: the memory holds the beliefs that the pairs passed lead to,
-- behind those that were there, and the row has their places.
-- Assumes nothing.
use lib.ListN.{length}
use Rattle.beliefs.proofs.counting.PairLoop.{Kept}
use Rattle.beliefs.proofs.counting.expand_belief.Given as goal

abbrev pub invariant-loop-q : goal.invariant-loop-q
invariant-loop-q l =
    Kept l.automaton.successors.now l.twins l.members (length l.members) l.automaton.states l.automaton.pairs l.automaton.hiddens l.initial.mem l.k
    l.q l.m l.mem l.row
