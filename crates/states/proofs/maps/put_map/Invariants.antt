-- `states::maps::put_map` meets its contract. The invariant: the entries passed are stored, the rest is as it was.
-- Assumes nothing.
use mathlib.Core.Path.{◌≡◌}
use mathlib.Core.List.{◌++◌}
use lib.ListN.{drop}
use Rattle.basics.specs.Lists.{tabulate}
use Rattle.states.proofs.maps.MapLoops.{map_entry}
use Rattle.states.proofs.maps.put_map.Given as goal

abbrev pub invariant-loop-p : goal.invariant-loop-p
invariant-loop-p l = l.map ≡ tabulate l.p (map_entry l.words l.a) ++ drop l.p l.initial.map
