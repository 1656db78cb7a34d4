-- `beliefs::finding::hint_at` meets its contract. The invariant: the number is below the bound.
-- Assumes nothing.
use Prim.Native.Nat.{◌<◌}
use Rattle.beliefs.specs.BeliefMemory.{hint_size}
use Rattle.beliefs.proofs.finding.hint_at.Given as goal

abbrev pub invariant-loop-i : goal.invariant-loop-i
invariant-loop-i l =
    l.x < hint_size
