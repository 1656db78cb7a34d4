-- `rules::judging::bad_step` meets its contract. The invariant: the first bad step is that of the letters that are left.
-- Assumes nothing.
use Prim.Native.Nat.{◌+◌}
use mathlib.Core.Path.{◌≡◌}
use lib.ListN.{drop}
use Rattle.rules.specs.Trace.{counts_of, bad_step}
use Rattle.rules.proofs.judging.bad_step.Given as goal

abbrev pub invariant-loop-i : goal.invariant-loop-i
invariant-loop-i l =
    bad_step (counts_of l.s) 1 l.trace ≡ bad_step (counts_of l.s) (l.i + 1) (drop l.i l.trace)
