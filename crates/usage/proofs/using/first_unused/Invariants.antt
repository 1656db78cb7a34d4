-- `usage::using::first_unused` meets its contract. The invariant is `Looking`.
-- Assumes nothing.
use Prim.Native.Nat.{◌-◌}
use lib.ListN.{length}
use Rattle.formula.specs.Codes.{parts_in}
use Rattle.formula.specs.Parts.{have_signal}
use Rattle.grammar.specs.Names.{names_in}
use Rattle.usage.proofs.using.FirstLoop.{Looking}
use Rattle.usage.proofs.using.first_unused.Given as goal

abbrev pub invariant-loop-at : goal.invariant-loop-at
invariant-loop-at l =
    Looking (have_signal (parts_in l.parts)) (names_in l.names) l.source l.found l.at l.line

abbrev pub decreases-loop-at : goal.decreases-loop-at
decreases-loop-at l =
    length l.source - l.at
