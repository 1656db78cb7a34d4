-- `obligations::values::put_part` meets its contract. The invariant: the words of the letters passed are written, from the memory as it was.
-- Assumes nothing.
use mathlib.Core.Path.{◌≡◌}
use Rattle.obligations.proofs.ValuesLaws.{part_to}
use Rattle.obligations.proofs.values.put_part.Given as goal

abbrev pub invariant-loop-x : goal.invariant-loop-x
invariant-loop-x l = l.v ≡ part_to l.part l.o l.letters l.i l.initial.v l.x
