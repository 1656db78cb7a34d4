-- `search::sets::put_spread` meets its contract. The invariant: the entries passed are the bits, and the others as they were.
-- Assumes nothing.
use mathlib.Core.Path.{◌≡◌}
use mathlib.Core.List.{◌++◌}
use lib.ListN.{drop}
use Rattle.basics.specs.Lists.{tabulate}
use Rattle.search.proofs.sets.SetLoops.{spread_at}
use Rattle.search.proofs.sets.put_spread.Given as goal

abbrev pub invariant-loop-p : goal.invariant-loop-p
invariant-loop-p l = l.present ≡ tabulate l.p (spread_at l.bytes) ++ drop l.p l.initial.present
