-- `beliefs::counting::mark_belief` meets its contract, by those of `put_members` and `is_final`.
-- Assumes nothing.
use native.Mathlib.Omega.{arith}
use mathlib.Core.Path.{ap, ◌∙◌}
use lib.ListN.{set}
use Rattle.beliefs.proofs.believing.MemberLoop.{members_within, members_front, belief_front}
use Rattle.beliefs.proofs.counting.VisitLoop.{mark_is}
use Rattle.beliefs.proofs.counting.mark_belief.Goals as goal

pub is_final-requires : goal.is_final-requires
is_final-requires c =
    members_within _ _ _ c.put_members-count.ensures.members _ (omega arith)

pub returns-clause-finals_after : goal.returns-clause-finals_after
returns-clause-finals_after c =
    let members = c.put_members-count.ensures.members in
    ap (set c.args.finals.now c.args.i)
    (mark_is c.args.automaton.now.sets.now _ c.args.automaton.now.states _ _ _ (members_front _ _ _ members)
    (belief_front _ _ _ members ∙ c.put_members-count.ensures.result_after) c.is_final.ensures)
