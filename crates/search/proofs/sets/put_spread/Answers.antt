use native.Mathlib.Omega.{arith}
use Rattle.basics.proofs.Filling.{table_more}
use Rattle.search.proofs.sets.SetLoops.{spread_bit, spread_done}
use Rattle.search.proofs.sets.put_spread.Goals as goal

pub loop-p-preserved : goal.loop-p-preserved
loop-p-preserved c =
    table_more c.loop-p.p _ c.args.present.now c.loop-p.present _ (omega arith) c.loop-p.invariant (spread_bit c.args.bytes.now c.loop-p.p)

pub returns : goal.returns
returns c = spread_done c.args.bytes.now c.args.present.now c.loop-p.present c.loop-p.p (omega arith) (omega (arith, c.told-present, c.requires)) c.loop-p.invariant
