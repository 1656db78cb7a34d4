use Prim.Native.Nat.{◌/◌, ◌%◌}
use native.Mathlib.Omega.{arith}
use Rattle.states.specs.Limits.{slot_size}
use Rattle.states.proofs.blocks.CarriedWords.{carried_read}
use Rattle.states.proofs.PlanesLaws.{plane_none, plane_more}
use Rattle.states.proofs.blocks.put_block.Goals as goal

pub loop-y-init : goal.loop-y-init
loop-y-init c = plane_none _ _ _ c.args.words.now

pub loop-y-preserved : goal.loop-y-preserved
loop-y-preserved c =
    plane_more _ _ _ c.loop-y.y c.args.words.now c.loop-y.words c.carried_lane.result (omega arith) c.loop-y.invariant
    (carried_read c.args.formula.now.parts.now c.args.formula.now.stored c.args.letters.now c.args.v.now _ c.args.w c.told-v c.put_values.ensures
    c.args.formula.now.spots.now c.args.formula.now.operators c.args.formula.now.counted c.args.formula.now.listed (c.loop-y.y / slot_size) (c.loop-y.y % slot_size) (omega arith) c.carried_lane.result c.carried_lane.ensures)
