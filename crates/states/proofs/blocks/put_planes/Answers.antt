use Prim.Native.Nat.{◌*◌}
use native.Mathlib.Omega.{arith}
use Rattle.obligations.specs.Values.{block_size}
use Rattle.states.proofs.PlanesLaws.{planes_none, planes_more}
use Rattle.states.proofs.blocks.put_planes.Goals as goal

pub loop-w-init : goal.loop-w-init
loop-w-init c = planes_none _ _ _ _

pub loop-w-preserved : goal.loop-w-preserved
loop-w-preserved c =
    planes_more _ _ (c.args.blocks * block_size) c.args.words.now c.loop-w.w c.loop-w.words _ c.loop-w.invariant (omega arith) (omega arith) c.put_plane.ensures
