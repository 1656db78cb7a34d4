-- `rules::reader::read_lines` meets its contract. The invariant is `Going`.
-- Assumes nothing.
use Prim.Native.Nat.{◌-◌}
use lib.ListN.{length}
use Rattle.grammar.specs.Names.{names_in}
use Rattle.rules.proofs.ReadingLaws.{Going}
use Rattle.rules.proofs.reader.read_lines.Given as goal

abbrev pub invariant-loop-at : goal.invariant-loop-at
invariant-loop-at l =
    Going l.source l.initial.parts l.at l.line l.s (names_in l.names) l.parts

abbrev pub decreases-loop-at : goal.decreases-loop-at
decreases-loop-at l =
    length l.source - l.at
