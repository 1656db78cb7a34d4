-- `compare::plain_rows::put_moves` meets its contract: no row is lost. Assumes nothing.
use Rattle.std.proofs.Common.{◌≤◌}
use Rattle.compare.proofs.plain_rows.put_moves.Given as goal

abbrev pub invariant-loop-o : goal.invariant-loop-o
invariant-loop-o l =
    l.initial.rows.count ≤ l.rows.count
