use native.Mathlib.Omega.{arith}
use Rattle.basics.proofs.BoundedLaws.{first_none}
use Rattle.tables.proofs.ranking.ChoiceLoop.{none_more, observation_more, observation_fails, observations_pass}
use Rattle.tables.proofs.ranking.each_has_choice.Goals as goal

pub loop-c-init : goal.loop-c-init
loop-c-init c =
    first_none _

pub observations-preserved : goal.observations-preserved
observations-preserved c =
    observation_more c.args.arena.now.moves.now c.args.ranks.now c.args.arena.now.choices c.args.arena.now.observations c.args.r c.args.k c.observations.s c.loop-c.c c.observations.invariant
    (omega arith) (omega arith)

pub loop-c-preserved : goal.loop-c-preserved
loop-c-preserved c =
    none_more c.args.arena.now.moves.now c.args.ranks.now c.args.arena.now.choices c.args.arena.now.observations c.args.r c.args.k c.observations.s c.loop-c.c c.loop-c.invariant (omega arith)

pub returns-in-observations : goal.returns-in-observations
returns-in-observations c =
    observation_fails c.args.arena.now.moves.now c.args.ranks.now c.args.arena.now.choices c.args.arena.now.observations c.args.r c.args.k c.observations.s c.observations-test.true c.loop-c.c (omega arith) c.loop-c.invariant

pub returns : goal.returns
returns c =
    observations_pass c.args.arena.now.moves.now c.args.ranks.now c.args.arena.now.choices c.args.arena.now.observations c.args.r c.args.k c.observations.s (omega arith) c.observations.invariant
