-- `states::blocks::put_planes` meets its contract. The invariant: the planes passed are right.
-- Assumes nothing.
use Prim.Native.Nat.{◌*◌}
use mathlib.Core.Path.{◌≡◌}
use Rattle.formula.specs.Codes.{parts_in}
use Rattle.obligations.specs.Values.{block_size}
use Rattle.states.specs.Planes.{planes_to}
use Rattle.states.proofs.blocks.put_planes.Given as goal

abbrev pub invariant-loop-w : goal.invariant-loop-w
invariant-loop-w l =
    l.words ≡ planes_to (parts_in l.parts) l.letters (l.blocks * block_size) l.w l.initial.words
