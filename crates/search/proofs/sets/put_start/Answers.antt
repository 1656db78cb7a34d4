use native.Mathlib.Omega.{arith}
use Rattle.basics.proofs.Filling.{table_more}
use Rattle.search.proofs.PackedSets.{start_done}
use Rattle.search.proofs.sets.put_start.Goals as goal

pub loop-i-preserved : goal.loop-i-preserved
loop-i-preserved c = table_more c.loop-i.i _ c.args.place.now c.loop-i.place _ (omega arith) c.loop-i.invariant c.start_byte.ensures

pub returns : goal.returns
returns c = start_done c.args.d c.args.place.now c.loop-i.place c.loop-i.i (omega arith) c.loop-i.invariant
