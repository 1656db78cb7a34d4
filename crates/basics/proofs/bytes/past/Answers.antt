use Rattle.std.proofs.Common.{◌≡◌, max, length, sym, ◌∙◌, arith, refl}
use Rattle.basics.specs.Bytes.{in_class}
use Rattle.basics.proofs.BytesLaws.{past_more, past_stop, past_end}
use Rattle.basics.proofs.bytes.past.Goals as goal

pub loop-i-init : goal.loop-i-init
loop-i-init c =
    record { in_reach = omega arith; first = refl }

pub returns-then-not-is_in : goal.returns-then-not-is_in
returns-then-not-is_in c =
    sym (c.loop-i.invariant.first ∙ past_stop (in_class c.args.class) _ _ (omega arith) (sym c.is_in.ensures ∙ c.if-not-is_in.true))

pub loop-i-preserved : goal.loop-i-preserved
loop-i-preserved c =
    record {
      in_reach = omega arith;
      first = c.loop-i.invariant.first ∙ past_more (in_class c.args.class) _ _ (omega arith) (sym c.is_in.ensures ∙ c.if-not-is_in.false);
    }

pub returns : goal.returns
returns c =
    let e : max c.args.at (length c.args.text.now) ≡ c.loop-i.i = omega (arith, c.loop-i-test.false, c.loop-i.invariant.in_reach) in
    c.max.ensures ∙ e ∙ sym (c.loop-i.invariant.first ∙ past_end (in_class c.args.class) _ _ c.loop-i-test.false)
