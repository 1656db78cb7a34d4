-- `basics::numbers::with_digit` is one digit more. Assumes nothing.
use native.Mathlib.Omega.{arith}
use Prim.Native.Nat.{◌<◌}
use Rattle.basics.proofs.NumbersLaws.{digit_more, digit_large, digit_low, digit_high}
use Rattle.basics.proofs.numbers.with_digit.Goals as goal
use Rattle.basics.proofs.numbers.with_digit.Goals.{else-n-lt-NUMBER_LIMIT-via-then-n-lt-NUMBER_LIMIT+then-b-ge48+else-b-le57, else-n-lt-NUMBER_LIMIT-via-then-n-lt-NUMBER_LIMIT+else-b-ge48, else-n-lt-NUMBER_LIMIT-via-else-n-lt-NUMBER_LIMIT}

pub returns-then-m-lt-NUMBER_LIMIT : goal.returns-then-m-lt-NUMBER_LIMIT
returns-then-m-lt-NUMBER_LIMIT c =
    let low = c.if-b-ge48.true in
    let high : c.args.b < 58 = omega (arith, c.if-b-le57.true) in
    digit_more c.args.n c.args.b low high c.if-m-lt-NUMBER_LIMIT.true

pub returns-else-m-lt-NUMBER_LIMIT : goal.returns-else-m-lt-NUMBER_LIMIT
returns-else-m-lt-NUMBER_LIMIT c =
    digit_large c.args.n c.args.b c.if-m-lt-NUMBER_LIMIT.false

pub returns-else-n-lt-NUMBER_LIMIT : goal.returns-else-n-lt-NUMBER_LIMIT
returns-else-n-lt-NUMBER_LIMIT c =
    elim c.else-n-lt-NUMBER_LIMIT.branch [
      | else-n-lt-NUMBER_LIMIT-via-then-n-lt-NUMBER_LIMIT+then-b-ge48+else-b-le57 w ↦ digit_high c.args.n c.args.b (omega (arith, w.if-b-le57.false))
      | else-n-lt-NUMBER_LIMIT-via-then-n-lt-NUMBER_LIMIT+else-b-ge48 w ↦ digit_low c.args.n c.args.b w.if-b-ge48.false
      | else-n-lt-NUMBER_LIMIT-via-else-n-lt-NUMBER_LIMIT w ↦ digit_large c.args.n c.args.b (omega (arith, w.if-n-lt-NUMBER_LIMIT.false))
    ]
