-- `compare::plain_patterns::number_of` is safe and ends. Assumes nothing.
use Rattle.std.proofs.Common.{◌^◌, ◌<◌}
use Rattle.compare.proofs.plain_patterns.number_of.Given as goal

abbrev pub invariant-loop-k : goal.invariant-loop-k
invariant-loop-k l =
    l.n < 2 ^ l.k
