-- `compare::list::List::append` meets its contract: no item is lost. Assumes nothing.
use Rattle.std.proofs.Common.{◌≤◌}
use Rattle.compare.proofs.list.List.append.Given as goal

abbrev pub invariant-loop-item : goal.invariant-loop-item
invariant-loop-item g l =
    l.initial.self.count ≤ l.self.count
