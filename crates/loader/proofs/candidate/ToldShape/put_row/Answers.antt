use native.Mathlib.Omega.{arith}
use lib.ListN.{length-set}
use Rattle.loader.proofs.candidate.CellLoop.{cell_more, cells_all}
use Rattle.loader.proofs.candidate.ToldShape.put_row.Goals as goal

pub loop-i-preserved : goal.loop-i-preserved
loop-i-preserved c = (
  simp length-set c.loop-i.invariant.0,
  cell_more c.args.self.now.shape c.args.line.now c.args.cells.now c.args.row _ c.row_size-size.ensures c.requires c.loop-i.i c.loop-i.cells c.loop-i.invariant.1
      c.loop-i-test.true _ c.cell_in.ensures,
)

pub returns : goal.returns
returns c =
    cells_all c.args.self.now.shape c.args.line.now c.args.cells.now c.args.row _ c.row_size-size.ensures c.requires c.loop-i.i c.loop-i.cells c.loop-i.invariant.1
    (omega (arith, c.loop-i-test.false))
