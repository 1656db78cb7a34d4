-- `obligations::letters::list_letters` meets its contract. The invariant: the letters passed are stored, the rest is as it was.
-- Assumes nothing.
use mathlib.Core.Path.{◌≡◌}
use mathlib.Core.List.{◌++◌}
use lib.ListN.{drop}
use Rattle.basics.specs.Lists.{tabulate}
use Rattle.obligations.specs.Letters.{counts, letter_count, letter_of}
use Rattle.obligations.proofs.letters.list_letters.Given as goal

abbrev pub invariant-loop-i : goal.invariant-loop-i
invariant-loop-i l =
    (l.count ≡ letter_count (counts l.outputs l.observed l.hidden))
    × (l.letters ≡ tabulate l.i (letter_of (counts l.outputs l.observed l.hidden)) ++ drop l.i l.initial.letters)
