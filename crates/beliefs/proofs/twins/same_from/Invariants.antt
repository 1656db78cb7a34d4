-- `beliefs::twins::same_from` meets its contract. The invariant: the pairs agree at the hidden values passed.
-- Assumes nothing.
use mathlib.Core.Path.{◌≡◌}
use mathlib.Core.Bool.{true}
use Rattle.beliefs.specs.Twins.{same_from}
use Rattle.beliefs.proofs.twins.same_from.Given as goal

abbrev pub invariant-loop-h : goal.invariant-loop-h
invariant-loop-h l =
    same_from l.automaton.successors.now l.automaton.pairs l.h l.a l.b l.s ≡ true
