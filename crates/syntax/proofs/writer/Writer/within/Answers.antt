-- `syntax::writer::Writer::within` meets its contract.
-- Assumes nothing.
use native.Mathlib.Omega.{arith}
use Rattle.syntax.specs.Kinds.{or_kind}
use Rattle.syntax.proofs.PlansLaws.{prefix_length, chain_length}
use Rattle.syntax.proofs.WriterLaws.{writes_then, writes_infix}
use Rattle.syntax.proofs.writer.Writer.within.Goals as goal

pub join-requires : goal.join-requires
join-requires c = (omega arith, omega (arith, prefix_length, chain_length))

pub over-requires : goal.over-requires
over-requires c = omega (arith, prefix_length, chain_length)

pub returns : goal.returns
returns c = writes_then (writes_infix or_kind c.prefix.ensures c.chain.ensures c.join.ensures) c.over.ensures
