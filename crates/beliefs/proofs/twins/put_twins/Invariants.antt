-- `beliefs::twins::put_twins` meets its contract. The invariant: the pairs passed have their twins.
-- Assumes nothing.
use mathlib.Core.Path.{◌≡◌}
use mathlib.Core.List.{◌++◌}
use lib.ListN.{drop}
use Rattle.basics.specs.Lists.{tabulate}
use Rattle.beliefs.specs.Twins.{first_twin}
use Rattle.beliefs.proofs.twins.put_twins.Given as goal

abbrev pub invariant-loop-q : goal.invariant-loop-q
invariant-loop-q l =
    l.twins ≡ tabulate l.q (first_twin l.automaton.successors.now l.automaton.states l.automaton.pairs l.automaton.hiddens)
    ++ drop l.q l.initial.twins
