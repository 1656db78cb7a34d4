-- `basics::numbers::number_in` is the number: that of the digits so far goes on with the rest. Assumes nothing.
use mathlib.Core.Path.{◌≡◌}
use mathlib.Core.List.{foldl}
use lib.ListN.{drop}
use Rattle.std.specs.Prelude.{Some}
use Rattle.basics.specs.Numbers.{with_digit, number_in}
use Rattle.basics.proofs.numbers.number_in.Given as goal

abbrev pub invariant-loop-digit : goal.invariant-loop-digit
invariant-loop-digit l =
    number_in l.digits ≡ foldl with_digit (Some l.n) (drop l.digit-index l.digits)
