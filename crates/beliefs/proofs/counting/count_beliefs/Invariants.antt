-- `beliefs::counting::count_beliefs` meets its contract. The invariant: the memory holds the beliefs found so far, and those visited
-- have their rows and marks.
-- Assumes nothing.
use Prim.Native.Nat.{◌+◌, ◌-◌, ◌*◌}
use mathlib.Core.Path.{◌≡◌}
use lib.ListN.{length}
use Rattle.basics.specs.Member.{Distinct}
use Rattle.play.specs.Limits.{belief_limit, pair_limit}
use Rattle.beliefs.specs.BeliefMemory.{belief_size, beliefs_in}
use Rattle.beliefs.proofs.counting.VisitLoop.{Marked, BeliefTurn}
use Rattle.beliefs.proofs.counting.count_beliefs.Given as goal

abbrev pub invariant-loop-i : goal.invariant-loop-i
invariant-loop-i l =
    (length l.mem ≡ (belief_limit + 1) * belief_size) × (length l.moves ≡ belief_limit * pair_limit)
    × BeliefTurn l.automaton.sets.now l.automaton.successors.now l.automaton.states l.automaton.pairs l.automaton.hiddens l.mem l.moves l.k l.i
    × Distinct (beliefs_in l.automaton.states l.mem l.k) × Marked l.automaton.sets.now l.automaton.states l.mem l.i l.finals

abbrev pub decreases-loop-i : goal.decreases-loop-i
decreases-loop-i l =
    belief_limit - l.i
