-- `tables::choosing::put_answers` meets its contract.
-- Assumes nothing.
use native.Mathlib.Omega.{arith}
use mathlib.Core.Path.{sym, ap, ◌∙◌}
use Rattle.basics.specs.Lists.{written}
use Rattle.tables.specs.PositionMemory.{answers_at}
use Rattle.tables.proofs.choosing.BestLoop.{found_le, one_answer}
use Rattle.tables.proofs.choosing.put_answers.Goals as goal

pub put_one-requires-clause-c_le_side_limit : goal.put_one-requires-clause-c_le_side_limit
put_one-requires-clause-c_le_side_limit c =
    omega (arith, found_le _ _ _ c.smallest_choice-c.ensures)

pub returns-in-Set : goal.returns-in-Set
returns-in-Set c =
    c.put_one.ensures
    ∙ ap (λ l. written l c.args.answers.now) (one_answer _ _ _ _ _ _ c.smallest_choice-c.ensures
    ∙ ap (λ o. answers_at o c.args.arena.now.moves.now c.args.ranks.now c.args.arena.now.choices c.args.arena.now.observations c.args.k) (sym c.in-Set.is))
