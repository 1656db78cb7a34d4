use native.Mathlib.Omega.{arith}
use Rattle.basics.proofs.BoundedLaws.{first_none, all_done}
use Rattle.tables.proofs.ranking.ChoiceLoop.{leads_more, choice_fails, choice_found}
use Rattle.tables.proofs.ranking.smallest_choice.Goals as goal

pub choices-init : goal.choices-init
choices-init c =
    first_none _

pub choices-preserved : goal.choices-preserved
choices-preserved c =
    choice_fails c.args.arena.now.moves.now c.args.ranks.now c.args.arena.now.choices c.args.arena.now.observations c.args.r c.args.k c.choices.c c.loop-s.s c.choices.invariant (omega arith) (omega arith)

pub loop-s-preserved : goal.loop-s-preserved
loop-s-preserved c =
    leads_more c.args.arena.now.moves.now c.args.ranks.now c.args.arena.now.choices c.args.arena.now.observations c.args.r c.args.k c.choices.c c.loop-s.s c.loop-s.invariant (omega arith)

pub returns-in-choices : goal.returns-in-choices
returns-in-choices c =
    choice_found c.args.arena.now.moves.now c.args.ranks.now c.args.arena.now.choices c.args.arena.now.observations c.args.r c.args.k c.choices.c c.choices-test.true c.choices.invariant
    (all_done c.loop-s.s c.args.arena.now.observations _ (omega arith) c.loop-s.invariant)
