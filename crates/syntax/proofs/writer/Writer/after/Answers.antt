-- `syntax::writer::Writer::after` meets its contract.
-- Assumes nothing.
use Rattle.syntax.specs.Kinds.{or_kind}
use Rattle.syntax.proofs.WriterLaws.{writes_then, writes_infix}
use Rattle.syntax.proofs.writer.Writer.after.Goals as goal

pub returns : goal.returns
returns c = writes_then (writes_infix or_kind c.prefix.ensures c.prefix-2.ensures c.join.ensures) c.over.ensures
