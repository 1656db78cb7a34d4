use native.Mathlib.Omega.{arith}
use lib.ListN.{length}
use Rattle.syntax.proofs.PlansLaws.{chain_length, chain_none, chain_more, chain_size}
use Rattle.syntax.proofs.WriterLaws.{writes_as, writes_then, writes_infix}
use Rattle.syntax.proofs.writer.Writer.+chain.Goals as goal

pub returns-then-k-lt1 : goal.returns-then-k-lt1
returns-then-k-lt1 t c =
    writes_as (chain_none c.args.op c.args.step c.args.k c.args.a.now (omega arith)) c.copy.ensures

pub over-requires : goal.over-requires
over-requires t c =
    let size = chain_size c.args.k (length c.args.a.now) (omega arith) in
    omega (arith, size, chain_length)

pub join-requires : goal.join-requires
join-requires t c =
    let size = chain_size c.args.k (length c.args.a.now) (omega arith) in
    (omega arith, omega (arith, size, chain_length))

pub returns : goal.returns
returns t c =
    let more = chain_more c.args.op c.args.step c.args.k c.args.a.now (omega arith) in
    writes_as more (writes_infix c.args.op c.copy.ensures (writes_then c.chain.ensures c.over.ensures) c.join.ensures)
