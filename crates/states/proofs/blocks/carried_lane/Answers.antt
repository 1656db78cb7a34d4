-- `states::blocks::carried_lane` meets its contract. The places of the operators are those of parts, and a byte is an index of a block.
-- Assumes nothing.
use native.Mathlib.Omega.{arith}
use Rattle.formula.proofs.CodesLaws.{length_in}
use Rattle.obligations.proofs.OperatorSpots.{listed_held, listed_spot}
use Rattle.states.proofs.blocks.CarriedWords.{read_low, read_top, read_above}
use Rattle.states.proofs.blocks.carried_lane.Goals as goal

pub bounds-formula-k : goal.bounds-formula-k
bounds-formula-k c =
    listed_held _ _ _ c.args.formula.now.counted c.args.formula.now.listed _ c.if-k-formula.true

pub part_at-part-requires : goal.part_at-part-requires
part_at-part-requires c =
    let spot = listed_spot _ _ _ c.args.formula.now.counted c.args.formula.now.listed _ c.if-k-formula.true in
    omega (arith, spot.0, length_in c.args.formula.now.parts.now)

pub returns-then-k-formula : goal.returns-then-k-formula
returns-then-k-formula c =
    read_low c.args.formula.now.parts.now c.args.formula.now.spots.now c.args.v.now c.args.formula.now.operators c.args.x c.args.k c.if-k-formula.true
    c.part_at-part.result c.owed_lanes.result c.part_at-part.ensures c.owed_lanes.ensures

pub returns-then-k-formula-2 : goal.returns-then-k-formula-2
returns-then-k-formula-2 c =
    read_top c.args.formula.now.parts.now c.args.formula.now.spots.now c.args.v.now c.args.formula.now.operators c.args.x c.args.k c.if-k-formula-2.true

pub returns : goal.returns
returns c =
    read_above c.args.formula.now.parts.now c.args.formula.now.spots.now c.args.v.now c.args.formula.now.operators c.args.x c.args.k c.if-k-formula.false c.if-k-formula-2.false
