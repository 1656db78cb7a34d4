-- `search::sets::put_start` meets its contract. The invariant: the bytes passed are those of the start set, and the others as they were.
-- Assumes nothing.
use mathlib.Core.Path.{◌≡◌}
use mathlib.Core.List.{◌++◌}
use lib.ListN.{drop}
use Rattle.basics.specs.Lists.{tabulate}
use Rattle.search.specs.Memory.{start_byte}
use Rattle.search.proofs.sets.put_start.Given as goal

abbrev pub invariant-loop-i : goal.invariant-loop-i
invariant-loop-i l = l.place ≡ tabulate l.i (start_byte l.d) ++ drop l.i l.initial.place
