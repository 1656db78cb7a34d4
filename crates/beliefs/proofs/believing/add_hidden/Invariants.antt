-- `beliefs::believing::add_hidden` meets its contract. The invariant: the states of the hidden values passed are added.
-- Assumes nothing.
use mathlib.Core.Path.{◌≡◌}
use Rattle.beliefs.specs.BeliefMemory.{with_hidden}
use Rattle.beliefs.proofs.believing.add_hidden.Given as goal

abbrev pub invariant-loop-h : goal.invariant-loop-h
invariant-loop-h l =
    l.belief ≡ with_hidden l.automaton.successors.now l.s l.q l.automaton.pairs l.h l.initial.belief
