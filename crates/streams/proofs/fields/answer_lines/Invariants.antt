-- `streams::answer_lines` is safe and ends: what is left of the text falls. Assumes nothing.
use Prim.Native.Nat.{◌-◌}
use lib.ListN.{length}
use Rattle.streams.proofs.fields.answer_lines.Given as goal

abbrev pub invariant-loop-i : goal.invariant-loop-i
invariant-loop-i g l =
    Unit {0}

abbrev pub decreases-loop-i : goal.decreases-loop-i
decreases-loop-i g l =
    length l.text - l.i
