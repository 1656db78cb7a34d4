-- `syntax::writer::Writer::copy` meets its contract. The invariant: the cells passed are written.
-- Assumes nothing.
use lib.ListN.{take}
use Rattle.syntax.specs.Writer.{Writes}
use Rattle.syntax.proofs.writer.Writer.copy.Given as goal

abbrev pub invariant-loop-cell : goal.invariant-loop-cell
invariant-loop-cell l = Writes l.initial.self l.self (take l.cell-index l.from)
