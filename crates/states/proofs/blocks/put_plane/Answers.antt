use Prim.Native.Nat.{◌+◌, ◌*◌}
use native.Mathlib.Omega.{arith}
use Rattle.obligations.specs.Values.{block_size}
use Rattle.states.proofs.PlanesLaws.{plane_none, plane_block}
use Rattle.states.proofs.blocks.put_plane.Goals as goal

pub loop-b-init : goal.loop-b-init
loop-b-init c = plane_none _ _ _ c.args.words.now

pub loop-b-preserved : goal.loop-b-preserved
loop-b-preserved c =
    plane_block _ _ _ (c.loop-b.b * block_size) block_size ((c.loop-b.b + 1) * block_size) c.args.words.now c.loop-b.words _ (omega arith) c.loop-b.invariant c.put_block.ensures.words_after
