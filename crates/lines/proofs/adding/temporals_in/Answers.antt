use Prim.Native.Nat.{◌<◌}
use native.Mathlib.Omega.{arith}
use lib.ListN.{length}
use Rattle.lines.proofs.CellKinds.{temporals_hit, temporals_miss, temporals_end}
use Rattle.lines.proofs.adding.temporals_in.Goals as goal
use Rattle.lines.proofs.adding.temporals_in.Goals.{else-is_temporal, then-is_temporal}

pub loop-cell-preserved : goal.loop-cell-preserved
loop-cell-preserved c =
    let h : c.loop-cell.cell-index < length c.args.cells.now = omega arith in
    elim c.if-is_temporal.branch [ then-is_temporal w ↦ omega (arith, temporals_hit c.args.cells.now c.loop-cell.cell-index h c.is_temporal.result c.is_temporal.ensures w.if-is_temporal.true) | else-is_temporal w ↦ omega (arith, temporals_miss c.args.cells.now c.loop-cell.cell-index h c.is_temporal.result c.is_temporal.ensures w.if-is_temporal.false) ]

pub returns : goal.returns
returns c =
    omega (arith, temporals_end c.args.cells.now c.loop-cell.cell-index (omega arith))
