-- `syntax::writer::Writer::before` meets its contract.
-- Assumes nothing.
use Rattle.syntax.specs.Kinds.{until_kind}
use Rattle.syntax.proofs.WriterLaws.{writes_then, writes_infix}
use Rattle.syntax.proofs.writer.Writer.before.Goals as goal

pub returns : goal.returns
returns c = writes_then (writes_infix until_kind c.prefix.ensures c.copy.ensures c.join.ensures) c.over.ensures
