-- `formula::evaluate::entries_at` meets its contract. The measure is the number of steps that are left.
-- Assumes nothing.
use Rattle.std.proofs.Common.{◌-◌, length}
use Rattle.formula.proofs.evaluate.+entries_at.Given as goal

abbrev pub decreases-entries_at : goal.decreases-entries_at
decreases-entries_at l = length l.trace.now - l.t
