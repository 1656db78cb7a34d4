-- `search::sets::same_run` meets its contract. The invariant: the bytes passed agree.
-- Assumes nothing.
use mathlib.Core.Path.{◌≡◌}
use mathlib.Core.Bool.{true}
use Rattle.search.specs.Slots.{same_run}
use Rattle.search.proofs.sets.same_run.Given as goal

abbrev pub invariant-loop-y : goal.invariant-loop-y
invariant-loop-y l = same_run l.mem l.a l.b l.y ≡ true
