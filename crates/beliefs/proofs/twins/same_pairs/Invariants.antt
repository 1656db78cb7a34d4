-- `beliefs::twins::same_pairs` meets its contract. The invariant: the pairs agree from the states passed.
-- Assumes nothing.
use mathlib.Core.Path.{◌≡◌}
use mathlib.Core.Bool.{true}
use Rattle.beliefs.specs.Twins.{same_pairs}
use Rattle.beliefs.proofs.twins.same_pairs.Given as goal

abbrev pub invariant-loop-s : goal.invariant-loop-s
invariant-loop-s l =
    same_pairs l.automaton.successors.now l.s l.automaton.pairs l.automaton.hiddens l.a l.b ≡ true
