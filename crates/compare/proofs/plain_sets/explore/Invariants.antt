-- `compare::plain_sets::explore` meets its contract, and ends: no set is lost. Assumes nothing.
use Rattle.std.proofs.Common.{◌-◌, ◌≤◌}
use Rattle.compare.proofs.plain_sets.explore.Given as goal

abbrev pub invariant-loop-i : goal.invariant-loop-i
invariant-loop-i g l =
    l.initial.found.count ≤ l.found.count

abbrev pub invariant-loop-m : goal.invariant-loop-m
invariant-loop-m g l =
    l.initial.found.count ≤ l.found.count

abbrev pub decreases-loop-i : goal.decreases-loop-i
decreases-loop-i g l =
    g.row.N - l.i
