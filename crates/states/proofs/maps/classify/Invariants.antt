-- `states::maps::classify` meets its contract. The invariant: the letters passed have their first, and the first ones their map.
-- Assumes nothing.
use mathlib.Core.Path.{◌≡◌}
use mathlib.Core.List.{◌++◌}
use lib.ListN.{drop}
use Rattle.basics.specs.Lists.{tabulate}
use Rattle.states.specs.Planes.{first_of, maps_to}
use Rattle.states.proofs.maps.classify.Given as goal

abbrev pub invariant-loop-a : goal.invariant-loop-a
invariant-loop-a l = record {
  maps_are : l.maps ≡ maps_to l.words l.m l.a l.initial.maps;
  firsts_are : l.firsts ≡ tabulate l.a (first_of l.words) ++ drop l.a l.initial.firsts;
}
