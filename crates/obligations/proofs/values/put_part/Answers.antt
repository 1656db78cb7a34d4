use native.Mathlib.Omega.{arith}
use Rattle.obligations.specs.Words.{all_lanes, combine_lanes}
use Rattle.obligations.proofs.WordsLaws.{lanes_unique}
use Rattle.obligations.proofs.ValuesLaws.{part_more, part_done}
use Rattle.obligations.proofs.values.put_part.Goals as goal

pub loop-x-preserved : goal.loop-x-preserved
unfolding all_lanes combine_lanes
loop-x-preserved c =
    part_more c.args.part c.args.o c.args.letters.now c.args.i c.args.v.now c.loop-x.x (omega arith) c.loop-x.v c.loop-x.invariant
    _ c.bit_of.ensures _ (lanes_unique _ _ c.all-s.type_inv c.all-s.ensures)
    _ (lanes_unique _ _ c.combined.type_inv c.combined.ensures)

pub returns : goal.returns
returns c =
    part_done _ _ _ _ _ c.loop-x.x (omega arith) c.loop-x-test.false c.loop-x.v c.loop-x.invariant
