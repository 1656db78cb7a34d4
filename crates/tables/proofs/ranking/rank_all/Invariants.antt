-- `tables::ranking::rank_all` meets its contract. The invariant: before round r the ranks are those below r.
-- Assumes nothing.
use mathlib.Core.Path.{◌≡◌}
use lib.ListN.{take, drop}
use Rattle.tables.specs.PositionMemory.{ranks_below}
use Rattle.tables.proofs.ranking.rank_all.Given as goal

abbrev pub invariant-loop-r : goal.invariant-loop-r
invariant-loop-r l =
    (take l.arena.count l.ranks ≡ ranks_below l.order l.arena.count l.arena.choices l.arena.observations l.r l.arena.moves.now l.arena.finals.now) × (drop l.arena.count l.ranks ≡ drop l.arena.count l.initial.ranks)
