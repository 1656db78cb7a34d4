-- `usage::using::put_unused` meets its contract. The invariant is `Putting`.
-- Assumes nothing.
use Prim.Native.Nat.{◌-◌}
use lib.ListN.{length}
use Rattle.formula.specs.Codes.{parts_in}
use Rattle.formula.specs.Parts.{have_signal}
use Rattle.grammar.specs.Names.{names_in}
use Rattle.usage.proofs.using.NamesLoop.{Putting}
use Rattle.usage.proofs.using.put_unused.Given as goal

abbrev pub invariant-loop-at : goal.invariant-loop-at
invariant-loop-at l =
    Putting (have_signal (parts_in l.parts)) (names_in l.names) l.source l.initial.out l.out l.at

abbrev pub decreases-loop-at : goal.decreases-loop-at
decreases-loop-at l =
    length l.source - l.at
