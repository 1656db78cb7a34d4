use native.Mathlib.Omega.{arith}
use Rattle.syntax.proofs.WriterLaws.{writes_more}
use Rattle.syntax.proofs.writer.Writer.copy.Goals as goal

pub loop-cell-preserved : goal.loop-cell-preserved
loop-cell-preserved c = writes_more c.args.from.now c.loop-cell.cell-index (omega arith) c.loop-cell.invariant c.push.ensures
