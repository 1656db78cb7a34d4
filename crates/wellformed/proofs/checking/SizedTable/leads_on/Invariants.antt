-- `SizedTable::leads_on` meets its contract. The invariant: the observations passed have a choice and a next row.
-- Assumes nothing.
use mathlib.Core.Path.{◌≡◌}
use mathlib.Core.Bool.{true}
use Rattle.basics.specs.Bounded.{all}
use Rattle.wellformed.specs.WellFormed.{is_pair}
use Rattle.wellformed.proofs.checking.SizedTable.leads_on.Given as goal

abbrev pub invariant-loop-s : goal.invariant-loop-s
invariant-loop-s l =
    all l.s (is_pair l.self.cells.now l.self.shape l.row) ≡ true
