use Prim.Native.Nat.{◌/◌}
use native.Mathlib.Omega.{arith}
use mathlib.Core.Path.{ap}
use lib.ListN.{length, length-append}
use Rattle.basics.specs.Text.{decimal}
use Rattle.basics.proofs.TextLaws.{last_digit, decimal_small, decimal_more}
use Rattle.basics.proofs.WriterLaws.{puts_then, puts_as}
use Rattle.basics.proofs.text.Writer.+decimal.Goals as goal

pub byte-requires : goal.byte-requires
byte-requires t c =
    omega (arith, ap length (decimal_small c.args.n (omega arith)))

pub returns-then-n-lt10 : goal.returns-then-n-lt10
returns-then-n-lt10 t c =
    puts_as (decimal_small c.args.n (omega arith)) c.byte.ensures

pub decimal-requires : goal.decimal-requires
decimal-requires t c =
    let l = ap length (decimal_more c.args.n c.if-n-lt10.false) in
    let m = length-append (decimal (c.args.n / 10)) (last_digit c.args.n) in
    (omega arith, omega (arith, l, m))

pub byte-requires-2 : goal.byte-requires-2
byte-requires-2 t c =
    let l = ap length (decimal_more c.args.n c.if-n-lt10.false) in
    let m = length-append (decimal (c.args.n / 10)) (last_digit c.args.n) in
    omega (arith, l, m)

pub returns : goal.returns
returns t c =
    puts_as (decimal_more c.args.n c.if-n-lt10.false) (puts_then c.decimal.ensures c.byte-2.ensures)
