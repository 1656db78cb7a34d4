-- `states::blocks::put_block` meets its contract. The invariant: the words passed are right, and the others as they were.
-- Assumes nothing.
use mathlib.Core.Path.{◌≡◌}
use mathlib.Core.List.{◌++◌}
use lib.ListN.{drop}
use Rattle.formula.specs.Codes.{parts_in}
use Rattle.states.specs.Planes.{plane}
use Rattle.states.proofs.blocks.put_block.Given as goal

abbrev pub invariant-loop-y : goal.invariant-loop-y
invariant-loop-y l = l.words ≡ plane (parts_in l.formula.parts.now) l.letters l.w l.y ++ drop l.y l.initial.words
