-- `SizedTable::is_blank` meets its contract. The invariant: the observations passed have used cells, or zeros.
-- Assumes nothing.
use mathlib.Core.Path.{◌≡◌}
use mathlib.Core.Bool.{true}
use Rattle.basics.specs.Bounded.{all}
use Rattle.wellformed.proofs.WellFormedLaws.{blank_at}
use Rattle.wellformed.proofs.checking.SizedTable.is_blank.Given as goal

abbrev pub invariant-loop-s : goal.invariant-loop-s
invariant-loop-s l =
    all l.s (blank_at l.self.cells.now l.self.shape l.row) ≡ true
