-- `syntax::writer::Writer::once` meets its contract.
-- Assumes nothing.
use Rattle.syntax.specs.Kinds.{and_kind}
use Rattle.syntax.proofs.WriterLaws.{writes_then, writes_infix}
use Rattle.syntax.proofs.writer.Writer.once.Goals as goal

pub returns : goal.returns
returns c =
    let again = writes_then (writes_infix and_kind c.prefix.ensures c.prefix-2.ensures c.join.ensures) c.over.ensures in
    let twice = writes_then (writes_infix and_kind c.copy.ensures again c.join-2.ensures) c.over-2.ensures in
    writes_then twice c.over-3.ensures
