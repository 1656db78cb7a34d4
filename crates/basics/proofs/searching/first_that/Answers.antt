use native.Mathlib.Omega.{arith}
use mathlib.Core.Path.{sym}
use mathlib.Core.Bool.{true, false}
use Rattle.basics.proofs.BoundedLaws.{first_none, first_more, first_found, first_end}
use Rattle.basics.proofs.searching.first_that.Goals as goal

pub loop-i-init : goal.loop-i-init
loop-i-init g c p e = first_none p

pub returns-then-test : goal.returns-then-test
returns-then-test g c p e =
    sym (first_found p c.args.n c.loop-i.i c.loop-i-test.true (c.loop-i.invariant p e) (sym (e c.loop-i.i true c.loop-i-test.true c.if-test.ensures)))

pub loop-i-preserved : goal.loop-i-preserved
loop-i-preserved g c p e =
    first_more p c.loop-i.i (c.loop-i.invariant p e) (sym (e c.loop-i.i false c.loop-i-test.true c.if-test.ensures))

pub returns : goal.returns
returns g c p e = first_end p c.args.n c.loop-i.i (omega arith) (c.loop-i.invariant p e)
