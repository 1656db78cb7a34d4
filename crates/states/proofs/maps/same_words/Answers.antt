use native.Mathlib.Omega.{arith}
use Rattle.states.proofs.maps.MapLoops.{same_none, same_more, same_fails, same_all}
use Rattle.states.proofs.maps.same_words.Goals as goal

pub loop-y-init : goal.loop-y-init
loop-y-init c = same_none _ _ _

pub returns-then-words-at : goal.returns-then-words-at
returns-then-words-at c = same_fails c.args.words.now c.args.a c.args.b c.loop-y.y c.loop-y-test.true c.if-words-at.true

pub loop-y-preserved : goal.loop-y-preserved
loop-y-preserved c = same_more c.args.words.now c.args.a c.args.b c.loop-y.y c.loop-y.invariant c.if-words-at.false

pub returns : goal.returns
returns c = same_all _ _ _ c.loop-y.y (omega arith) c.loop-y.invariant
