-- `lines::adding::temporals_in` meets its contract. The invariant: what is counted and what is left make the whole.
-- Assumes nothing.
use Prim.Native.Nat.{◌+◌, ◌-◌, ◌≤◌}
use mathlib.Core.Path.{◌≡◌}
use lib.ListN.{length, drop}
use Rattle.formula.specs.Parts.{temporals}
use Rattle.syntax.specs.Cells.{kinds_in}
use Rattle.lines.proofs.adding.temporals_in.Given as goal

abbrev pub invariant-loop-cell : goal.invariant-loop-cell
invariant-loop-cell l =
    (l.cell-index ≤ length l.cells) × (l.n ≤ l.cell-index) × (l.n + temporals (kinds_in (drop l.cell-index l.cells)) ≡ temporals (kinds_in l.cells))
