-- `compare::plain_patterns::pattern_before` is safe and ends. Assumes nothing.
use Rattle.std.proofs.Common.{◌≤◌}
use Rattle.compare.proofs.plain_patterns.pattern_before.Given as goal

abbrev pub invariant-loop-i : goal.invariant-loop-i
invariant-loop-i l =
    l.k ≤ l.i
