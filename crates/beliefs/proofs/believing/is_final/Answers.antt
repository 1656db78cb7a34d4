use mathlib.Core.Path.{sym}
use Rattle.beliefs.proofs.believing.MemberLoop.{accept_none, accept_more, accept_fails}
use Rattle.beliefs.proofs.believing.is_final.Goals as goal

pub loop-s-init : goal.loop-s-init
loop-s-init c =
    accept_none _ _

pub returns-then-automaton-s-eq0 : goal.returns-then-automaton-s-eq0
returns-then-automaton-s-eq0 c =
    sym (accept_fails _ _ _ c.loop-s.s-index c.loop-s-test.true c.if-automaton-s-eq0.true)

pub loop-s-preserved : goal.loop-s-preserved
loop-s-preserved c =
    accept_more _ _ c.loop-s.s-index c.loop-s.invariant c.if-automaton-s-eq0.false
