-- `beliefs::believing::is_final` meets its contract. The invariant: every member passed accepts.
-- Assumes nothing.
use mathlib.Core.Path.{◌≡◌}
use mathlib.Core.Bool.{true}
use Rattle.beliefs.specs.BeliefMemory.{all_accept}
use Rattle.beliefs.proofs.believing.is_final.Given as goal

abbrev pub invariant-loop-s : goal.invariant-loop-s
invariant-loop-s l =
    all_accept l.automaton.sets.now l.members l.s-index ≡ true
