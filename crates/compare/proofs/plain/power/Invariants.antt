-- `compare::plain::power` meets its contract. Assumes nothing.
use Rattle.std.proofs.Common.{◌≤◌}
use Rattle.compare.proofs.plain.power.Given as goal

abbrev pub invariant-loop : goal.invariant-loop
invariant-loop l =
    l.n ≤ l.most
