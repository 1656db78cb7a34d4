-- `beliefs::counting::visit_belief` meets its contract, by those of `mark_belief` and `expand_belief`.
-- Assumes nothing.
use Prim.Native.Nat.{◌<◌}
use native.Mathlib.Omega.{arith}
use mathlib.Core.Path.{◌∙◌}
use lib.ListN.{length}
use Rattle.beliefs.proofs.believing.MemberLoop.{members_front, belief_front}
use Rattle.beliefs.proofs.counting.VisitLoop.{visited_final, visited_other}
use Rattle.beliefs.proofs.counting.visit_belief.Goals as goal

pub returns-then-finals-i-eq1 : goal.returns-then-finals-i-eq1
returns-then-finals-i-eq1 c =
    let here : c.args.i < length c.args.finals.now = omega arith in
    let visited = visited_final _ _ _ _ _ _ _ c.args.row.now _ c.args.finals.now _ _ here c.mark_belief-count.ensures.finals_after
    c.if-finals-i-eq1.true c.requires.k_le_belief_limit c.requires.holds_beliefs in
    record { value = visited.0; tried = visited.1; finals_after = c.mark_belief-count.ensures.finals_after }

pub expand_belief-requires-clause-members : goal.expand_belief-requires-clause-members
expand_belief-requires-clause-members c =
    members_front _ _ _ c.mark_belief-count.ensures.members

pub returns : goal.returns
returns c =
    let here : c.args.i < length c.args.finals.now = omega arith in
    let visited = visited_other _ _ _ _ _ _ _ _ _ c.args.finals.now _ _ here c.mark_belief-count.ensures.finals_after
    c.if-finals-i-eq1.false _ (belief_front _ _ _ c.mark_belief-count.ensures.members ∙ c.mark_belief-count.ensures.result_after) _ _ _
    (c.expand_belief.ensures.value, c.expand_belief.ensures.tried) in
    record { value = visited.0; tried = visited.1; finals_after = c.mark_belief-count.ensures.finals_after }
