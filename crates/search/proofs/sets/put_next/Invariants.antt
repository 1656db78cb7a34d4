-- `search::sets::put_next` meets its contract. The invariant: the bytes passed are those of the next set, and the others as they were.
-- Assumes nothing.
use mathlib.Core.Path.{◌≡◌}
use mathlib.Core.List.{◌++◌}
use lib.ListN.{drop}
use Rattle.basics.specs.Lists.{tabulate}
use Rattle.search.specs.Memory.{next_byte}
use Rattle.search.proofs.sets.put_next.Given as goal

abbrev pub invariant-loop-b : goal.invariant-loop-b
invariant-loop-b l = l.place ≡ tabulate l.b (next_byte l.present l.entries) ++ drop l.b l.initial.place
