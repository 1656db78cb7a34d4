-- `tables::ranking::smallest_choice` meets its contract. Outer loop: no choice passed works. Inner loop: every observation passed leads below r.
-- Assumes nothing.
use mathlib.Core.Path.{◌≡◌}
use mathlib.Core.Bool.{true}
use Rattle.basics.specs.Bounded.{all, first_that}
use Rattle.tables.specs.PositionMemory.{works}
use Rattle.tables.proofs.ranking.ChoiceLoop.{leads}
use Rattle.tables.proofs.ranking.smallest_choice.Given as goal

abbrev pub invariant-loop-s : goal.invariant-loop-s
invariant-loop-s l =
    all l.s (leads l.arena.moves.now l.ranks l.arena.choices l.arena.observations l.r l.k l.c) ≡ true

abbrev pub invariant-choices : goal.invariant-choices
invariant-choices l =
    first_that (works l.arena.moves.now l.ranks l.arena.choices l.arena.observations l.r l.k) l.c ≡ l.c
