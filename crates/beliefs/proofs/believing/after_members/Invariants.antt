-- `beliefs::believing::after_members` meets its contract. The invariant: the bytes have what the members passed lead to.
-- Assumes nothing.
use mathlib.Core.Path.{◌≡◌}
use Rattle.beliefs.specs.BeliefMemory.{after_members}
use Rattle.beliefs.proofs.believing.after_members.Given as goal

abbrev pub invariant-loop-s : goal.invariant-loop-s
invariant-loop-s l =
    l.belief ≡ after_members l.automaton.successors.now l.members l.q l.automaton.pairs l.automaton.hiddens l.s-index
