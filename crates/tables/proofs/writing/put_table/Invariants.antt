-- `tables::writing::put_table` meets its contract. The invariant: the rows met so far are those of the search at this turn, and the rows
-- passed have the cells that they have in the end.
-- Assumes nothing.
use Prim.Native.Nat.{◌-◌}
use Rattle.play.specs.Limits.{belief_limit}
use Rattle.tables.proofs.writing.TableLoop.{Turn}
use Rattle.tables.proofs.writing.put_table.Given as goal

abbrev pub invariant-loop-i : goal.invariant-loop-i
invariant-loop-i l =
    Turn l.order l.arena.count l.arena.choices l.arena.observations l.arena.moves.now l.arena.finals.now l.initial.table l.i l.m l.rows l.table

abbrev pub decreases-loop-i : goal.decreases-loop-i
decreases-loop-i l =
    belief_limit - l.i
