-- `search::sets::repeat` meets its contract. The invariant: the bytes passed repeat the first h, and the others are as they were.
-- Assumes nothing.
use mathlib.Core.Path.{◌≡◌}
use mathlib.Core.List.{◌++◌}
use lib.ListN.{drop}
use Rattle.basics.specs.Lists.{tabulate}
use Rattle.search.proofs.sets.SetLoops.{repeated_at}
use Rattle.search.proofs.sets.repeat.Given as goal

abbrev pub invariant-loop-b : goal.invariant-loop-b
invariant-loop-b l = l.place ≡ tabulate l.b (repeated_at l.h l.initial.place) ++ drop l.b l.initial.place
