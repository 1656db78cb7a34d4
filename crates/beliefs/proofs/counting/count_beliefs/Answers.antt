use Prim.Native.Nat.{◌+◌, ◌-◌, ◌*◌}
use native.Mathlib.Nat.{le_trans}
use native.Mathlib.Omega.{arith}
use mathlib.Core.Path.{refl, sym, ◌∙◌}
use lib.ListN.{take, drop}
use borrow.Rule.Slice.PartMut.{same_len_mid}
use Rattle.basics.proofs.ListsLaws.{zeros_length}
use Rattle.search.proofs.SearchTurns.{turn_next, turn_row}
use Rattle.play.specs.Limits.{belief_limit, pair_limit}
use Rattle.beliefs.specs.BeliefMemory.{belief_size, belief_in, pairs_from}
use Rattle.beliefs.proofs.TwinsLaws.{twins_are}
use Rattle.beliefs.proofs.ApartPlaces.{distinct_one, distinct_next}
use Rattle.beliefs.proofs.BeliefMemoryLaws.{pairs_le}
use Rattle.beliefs.proofs.counting.VisitLoop.{marked_none, belief_stays, marked_more, turn_first, turn_many, turn_ran}
use Rattle.beliefs.proofs.counting.count_beliefs.Goals as goal

pub loop-i-init : goal.loop-i-init
loop-i-init c =
    let a = c.args.automaton.now in (
      omega arith,
      zeros_length _ (belief_limit * pair_limit) c.requires,
      turn_first a.sets.now a.successors.now a.states a.pairs a.hiddens ((belief_limit + 1) * belief_size) c.args.moves.now a.some a.few (omega arith)
          c.requires,
      distinct_one a.states _,
      marked_none a.sets.now a.states _ c.args.finals.now (omega arith),
    )

pub visit_belief-requires-clause-twins : goal.visit_belief-requires-clause-twins
visit_belief-requires-clause-twins c =
    let a = c.args.automaton.now in
    twins_are a.successors.now a.states a.pairs a.hiddens _ c.put_twins.new.twins c.put_twins.ensures

pub returns-in_err-k : goal.returns-in_err-k
returns-in_err-k c =
    let whole = turn_many c.args.automaton.now.sets.now _ _ _ _ c.loop-i.invariant.2 c.loop-i-test.true _ _
    (sym c.in_err-k.was ∙ c.visit_belief.ensures.value) in
    record { value = c.from_residual.ensures ∙ whole.0; ran_beliefs = whole.1 }

pub loop-i-preserved : goal.loop-i-preserved
loop-i-preserved c =
    let a = c.args.automaton.now in
    let b = belief_in a.states c.loop-i.mem c.loop-i.i in
    let at = c.loop-i.i * pair_limit in
    let room = (turn_row c.loop-i.invariant.2 c.loop-i-test.true _ a.few_pairs c.loop-i.invariant.1).0 in
    let part = take (at + a.pairs - at) (drop at c.loop-i.moves) in
    let some = pairs_from a.sets.now a.states a.pairs b in
    let tried = c.visit_belief.ensures.tried in
    let count = sym c.in_ok-k.was ∙ c.visit_belief.ensures.value in (
      omega arith,
      same_len_mid at (at + a.pairs - at) c.loop-i.moves c.visit_belief.new.row c.visit_belief.auto.row ∙ c.loop-i.invariant.1,
      turn_next c.loop-i.invariant.2 c.loop-i-test.true some refl _ at (at + a.pairs - at) _ c.visit_belief.new.row
          (λ x. le_trans (pairs_le a.sets.now a.states a.pairs x) a.few_pairs) (omega (arith, pairs_le a.sets.now a.states a.pairs b))
          (omega (arith, a.few_pairs)) refl (omega (arith, room)) count tried,
      distinct_next a.states belief_limit _ _ _ _ _ _ _ _ c.loop-i.invariant.3 count tried,
      marked_more a.sets.now a.states c.loop-i.mem _ c.loop-i.k c.loop-i.i c.loop-i.finals _ c.loop-i.invariant.4 c.loop-i-test.true
          c.loop-i.invariant.2.few
          (belief_stays a.successors.now a.states a.pairs a.hiddens some c.loop-i.mem c.loop-i.k b _ part _ _ count tried)
          c.visit_belief.ensures.finals_after,
    )

pub returns : goal.returns
returns c =
    let a = c.args.automaton.now in
    let whole = turn_ran a.sets.now _ _ _ _ c.loop-i.invariant.2 c.loop-i-test.false a.few a.few_pairs
    c.loop-i.invariant.0 c.loop-i.invariant.1 _ c.loop-i.invariant.4 in
    record { value = whole.0; ran_beliefs = whole.1 }
