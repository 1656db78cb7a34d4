-- `search::sets::same_slot` meets its contract. The invariant: the runs passed agree.
-- Assumes nothing.
use Prim.Native.Nat.{◌*◌}
use mathlib.Core.Path.{◌≡◌}
use mathlib.Core.Bool.{true}
use Rattle.search.specs.Slots.{same_run}
use Rattle.search.proofs.sets.same_slot.Given as goal

abbrev pub invariant-loop-r : goal.invariant-loop-r
invariant-loop-r l = same_run l.mem (l.i * l.w) (l.n * l.w) (l.r * 8) ≡ true
