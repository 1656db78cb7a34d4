use native.Mathlib.Omega.{arith}
use mathlib.Core.Path.{sym, ◌∙◌}
use Rattle.std.specs.Prelude.{Some}
use Rattle.basics.proofs.NumbersLaws.{number_none, number_some, number_more, number_bad, number_end}
use Rattle.basics.proofs.numbers.number_in.Goals as goal

pub returns-then-digits-eq0 : goal.returns-then-digits-eq0
returns-then-digits-eq0 c =
    number_none c.args.digits.now c.if-digits-eq0.true

pub loop-digit-init : goal.loop-digit-init
loop-digit-init c =
    number_some c.args.digits.now c.if-digits-eq0.false

pub returns-in_err-n : goal.returns-in_err-n
returns-in_err-n c =
    let e = sym c.in_err-n.was ∙ c.with_digit.ensures in
    c.from_residual.ensures ∙ number_bad c.args.digits.now c.loop-digit.digit-index (Some c.loop-digit.n) c.loop-digit-test.true e ∙ sym c.loop-digit.invariant

pub loop-digit-preserved : goal.loop-digit-preserved
loop-digit-preserved c =
    let e = sym c.in_ok-n.was ∙ c.with_digit.ensures in
    c.loop-digit.invariant ∙ number_more c.args.digits.now c.loop-digit.digit-index (Some c.loop-digit.n) _ c.loop-digit-test.true e

pub returns : goal.returns
returns c =
    number_end c.args.digits.now c.loop-digit.digit-index (Some c.loop-digit.n) c.loop-digit-test.false ∙ sym c.loop-digit.invariant
