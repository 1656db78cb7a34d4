use Rattle.std.proofs.Common.{◌≡◌}
use Rattle.grammar.specs.Names.{index_of, names_in}
use Rattle.grammar.proofs.NamesLaws.{from}
use Rattle.grammar.proofs.names.lookup.Given as goal

abbrev pub invariant-loop-b : goal.invariant-loop-b
invariant-loop-b l =
    index_of l.name (names_in l.names) ≡ from l.name l.names l.b
