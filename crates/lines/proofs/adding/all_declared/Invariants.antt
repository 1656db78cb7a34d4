-- `lines::adding::all_declared` meets its contract. The invariant: the names of the tokens passed are declared, so that all are if the
-- others are.
-- Assumes nothing.
use Prim.Native.Nat.{◌-◌, ◌≤◌}
use mathlib.Core.Path.{◌≡◌}
use lib.ListN.{length}
use Rattle.syntax.specs.Lex.{tokens}
use Rattle.grammar.specs.Names.{names_in}
use Rattle.lines.specs.declared.problem.Sizes.{Sizes}
use Rattle.lines.specs.Effect.{all_declared}
use Rattle.lines.specs.Memory.{signals_in}
use Rattle.lines.proofs.adding.all_declared.Given as goal

abbrev pub invariant-loop-t : goal.invariant-loop-t
invariant-loop-t l =
    (l.at ≤ length l.text)
    × ((s : Sizes)
    → all_declared (signals_in s (names_in l.names)) l.text (tokens l.text 0) ≡ all_declared (signals_in s (names_in l.names)) l.text (tokens l.text l.at))

abbrev pub decreases-loop-t : goal.decreases-loop-t
decreases-loop-t l =
    length l.text - l.at
