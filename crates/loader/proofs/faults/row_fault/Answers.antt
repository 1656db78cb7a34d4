use native.Mathlib.Omega.{arith}
use Rattle.loader.proofs.faults.FaultSteps.{right_none, right_more, row_found, rows_right}
use Rattle.loader.proofs.faults.row_fault.Goals as goal

pub loop-row-init : goal.loop-row-init
loop-row-init c =
    let t = c.args.table.now in
    right_none t.cells.now t.shape

pub returns-then-not-is_ranked : goal.returns-then-not-is_ranked
returns-then-not-is_ranked c =
    let t = c.args.table.now in
    row_found t.cells.now t.shape c.loop-row.row c.loop-row.invariant _ c.is_ranked.ensures c.loop-row-test.true (rw c.if-not-is_ranked.true)

pub loop-row-preserved : goal.loop-row-preserved
loop-row-preserved c =
    let t = c.args.table.now in
    right_more t.cells.now t.shape c.loop-row.row c.loop-row.invariant _ c.is_ranked.ensures (rw c.if-not-is_ranked.false)

pub returns : goal.returns
returns c =
    let t = c.args.table.now in
    rows_right t.cells.now t.shape c.loop-row.row c.loop-row.invariant (omega (arith, c.loop-row.auto.row-end, c.loop-row-test.false))
