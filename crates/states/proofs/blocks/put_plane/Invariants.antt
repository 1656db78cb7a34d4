-- `states::blocks::put_plane` meets its contract. The invariant: the words of the blocks passed are right, and the others as they were.
-- Assumes nothing.
use Prim.Native.Nat.{◌*◌}
use mathlib.Core.Path.{◌≡◌}
use mathlib.Core.List.{◌++◌}
use lib.ListN.{drop}
use Rattle.formula.specs.Codes.{parts_in}
use Rattle.obligations.specs.Values.{block_size}
use Rattle.states.specs.Limits.{slot_size}
use Rattle.states.specs.Planes.{plane}
use Rattle.states.proofs.blocks.put_plane.Given as goal

abbrev pub invariant-loop-b : goal.invariant-loop-b
invariant-loop-b l =
    l.words ≡ plane (parts_in l.formula.parts.now) l.letters l.w (l.b * block_size * slot_size) ++ drop (l.b * block_size * slot_size) l.initial.words
