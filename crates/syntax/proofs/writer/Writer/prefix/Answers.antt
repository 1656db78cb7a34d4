-- `syntax::writer::Writer::prefix` meets its contract.
-- Assumes nothing.
use Rattle.syntax.proofs.WriterLaws.{writes_then}
use Rattle.syntax.proofs.writer.Writer.prefix.Goals as goal

pub returns : goal.returns
returns c = writes_then c.copy.ensures c.over.ensures
