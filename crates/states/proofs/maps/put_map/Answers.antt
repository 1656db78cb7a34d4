use native.Mathlib.Omega.{arith}
use Rattle.basics.proofs.Filling.{table_more}
use Rattle.states.proofs.maps.MapLoops.{entry_code, map_all}
use Rattle.states.proofs.maps.put_map.Goals as goal

pub loop-p-preserved : goal.loop-p-preserved
loop-p-preserved c = table_more c.loop-p.p _ c.args.map.now _ _ (omega arith) c.loop-p.invariant (entry_code _ _ c.loop-p.p _ c.lane_of.ensures)

pub returns : goal.returns
returns c = map_all _ _ c.loop-p.p _ _ _ (omega arith) c.loop-p.invariant
