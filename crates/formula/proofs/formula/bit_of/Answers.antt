-- `formula::formula::bit_of` meets its contract: a letter has no bit from 16 on.
-- Assumes nothing.
use Rattle.std.proofs.Common.{arith}
use lib.Pow.{pow_mono}
use Rattle.basics.proofs.BitsLaws.{bit_out}
use Rattle.formula.proofs.formula.bit_of.Goals as goal

pub returns-else-k-lt16 : goal.returns-else-k-lt16
returns-else-k-lt16 c =
    let none = bit_out c.args.letter c.args.k (omega (arith, pow_mono {i = 16} {j = c.args.k} (omega arith), c.well_formed)) in
    grind (arith, none)
