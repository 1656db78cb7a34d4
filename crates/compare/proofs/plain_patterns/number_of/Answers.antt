use Rattle.std.proofs.Common.{arith}
use Rattle.compare.specs.Sizes.{bit_count}
use Rattle.compare.proofs.plain_patterns.DigitsBelow.{digit_more, digits_below}
use Rattle.compare.proofs.plain_patterns.number_of.Goals as goal

pub with_digit-n-requires : goal.with_digit-n-requires
with_digit-n-requires c =
    digits_below c.loop-k.n c.loop-k.k bit_count c.loop-k.invariant (omega arith)

pub loop-k-preserved : goal.loop-k-preserved
loop-k-preserved c =
    digit_more c.loop-k.n _ c.loop-k.k c.loop-k.invariant c.with_digit-n.ensures

pub returns : goal.returns
returns c =
    digits_below c.loop-k.n c.loop-k.k bit_count c.loop-k.invariant (omega arith)
