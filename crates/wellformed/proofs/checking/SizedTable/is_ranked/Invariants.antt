-- `SizedTable::is_ranked` meets its contract. The invariant: the observations passed lead to lower ranks.
-- Assumes nothing.
use mathlib.Core.Path.{◌≡◌}
use mathlib.Core.Bool.{true}
use Rattle.basics.specs.Bounded.{all}
use Rattle.wellformed.specs.WellFormed.{is_lower}
use Rattle.wellformed.proofs.checking.SizedTable.is_ranked.Given as goal

abbrev pub invariant-loop-s : goal.invariant-loop-s
invariant-loop-s l =
    all l.s (is_lower l.self.cells.now l.self.shape l.row) ≡ true
