use native.Mathlib.Omega.{arith}
use mathlib.Core.Path.{sym, ap, ap₂, ◌∙◌}
use lib.ListN.{length, length-append}
use Rattle.loader.specs.Difference.{difference}
use Rattle.loader.proofs.comparing.DifferenceLoop.{differs_here, line_more, line_same, both_end, one_ends}
use Rattle.loader.proofs.comparing.first_difference.Goals as goal

pub returns-then-x-y : goal.returns-then-x-y
returns-then-x-y c =
    let (a, b) = c.in-Some.ensures.steps in
    differs_here c.loop-x.line _ _ _ _ c.if-x-y.true ∙ sym (c.loop-x.invariant.differs ∙ ap₂ (difference c.loop-x.line) a b)

pub loop-x-preserved-then-x-eq-LINE_END : goal.loop-x-preserved-then-x-eq-LINE_END
loop-x-preserved-then-x-eq-LINE_END c =
    let (a, b) = c.in-Some.ensures.steps in
    record {
      few = simp length-append (omega arith);
      lengths = omega (arith, c.loop-x.invariant.lengths, ap length a, ap length b);
      differs = c.loop-x.invariant.differs ∙ ap₂ (difference c.loop-x.line) a b
          ∙ line_more c.loop-x.line _ _ _ _ c.if-x-y.false c.if-x-eq-LINE_END.true;
    }

pub loop-x-preserved : goal.loop-x-preserved
loop-x-preserved c =
    let (a, b) = c.in-Some.ensures.steps in
    record {
      few = simp length-append (omega arith);
      lengths = omega (arith, c.loop-x.invariant.lengths, ap length a, ap length b);
      differs = c.loop-x.invariant.differs ∙ ap₂ (difference c.loop-x.line) a b
          ∙ line_same c.loop-x.line _ _ _ _ c.if-x-y.false c.if-x-eq-LINE_END.false;
    }

pub returns-then-a-b : goal.returns-then-a-b
returns-then-a-b c =
    both_end c.loop-x.line _ _ c.in-None.ensures.steps (omega (arith, c.loop-x.invariant.lengths)) ∙ sym c.loop-x.invariant.differs

pub returns : goal.returns
returns c =
    one_ends c.loop-x.line _ _ c.in-None.ensures.steps (omega (arith, c.loop-x.invariant.lengths)) ∙ sym c.loop-x.invariant.differs
