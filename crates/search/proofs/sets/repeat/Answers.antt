use native.Mathlib.Omega.{arith}
use Rattle.search.proofs.sets.SetLoops.{repeated_none, repeated_more, repeated_done}
use Rattle.search.proofs.sets.repeat.Goals as goal

pub loop-b-init : goal.loop-b-init
loop-b-init c = repeated_none c.args.h c.args.place.now c.requires.h_in_bounds

pub loop-b-preserved : goal.loop-b-preserved
loop-b-preserved c =
    repeated_more c.args.h c.loop-b.b c.args.place.now c.loop-b.place c.requires.h_nonzero (omega arith) (omega arith) c.loop-b.invariant

pub returns : goal.returns
returns c = repeated_done c.args.h c.args.place.now c.loop-b.place c.loop-b.b (omega arith) c.loop-b.invariant
