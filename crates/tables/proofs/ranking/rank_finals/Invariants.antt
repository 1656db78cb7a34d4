-- `tables::ranking::rank_finals` meets its contract: the entries passed are those of `first_rank`.
-- Assumes nothing.
use mathlib.Core.Path.{◌≡◌}
use mathlib.Core.List.{◌++◌}
use lib.ListN.{drop}
use Rattle.basics.specs.Lists.{tabulate}
use Rattle.tables.specs.PositionMemory.{first_rank}
use Rattle.tables.proofs.ranking.rank_finals.Given as goal

abbrev pub invariant-loop-k : goal.invariant-loop-k
invariant-loop-k l =
    l.ranks ≡ tabulate l.k (first_rank l.arena.finals.now) ++ drop l.k l.initial.ranks
