-- `compare::plain_rows::put_rows` is safe and ends. Assumes nothing.
use Rattle.std.proofs.Common.{◌-◌}
use Rattle.play.specs.Limits.{belief_limit}
use Rattle.compare.proofs.plain_rows.put_rows.Given as goal

abbrev pub decreases-loop-row : goal.decreases-loop-row
decreases-loop-row l =
    belief_limit - l.row
