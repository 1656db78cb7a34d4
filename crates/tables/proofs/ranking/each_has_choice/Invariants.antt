-- `tables::ranking::each_has_choice` meets its contract. Outer loop: at every observation passed some choice leads below r. Inner loop: no
-- choice passed does.
-- Assumes nothing.
use mathlib.Core.Path.{◌≡◌}
use mathlib.Core.Bool.{true}
use Rattle.basics.specs.Bounded.{all, first_that}
use Rattle.tables.proofs.ranking.ChoiceLoop.{at, some_at}
use Rattle.tables.proofs.ranking.each_has_choice.Given as goal

abbrev pub invariant-loop-c : goal.invariant-loop-c
invariant-loop-c l =
    first_that (at l.arena.moves.now l.ranks l.arena.choices l.arena.observations l.r l.k l.s) l.c ≡ l.c

abbrev pub invariant-observations : goal.invariant-observations
invariant-observations l =
    all l.s (some_at l.arena.moves.now l.ranks l.arena.choices l.arena.observations l.r l.k) ≡ true
