-- `beliefs::counting::explore_beliefs` meets its contract, by those of `count_beliefs`, `copy_from_slice` and `clear`.
-- Assumes nothing.
use native.Mathlib.Omega.{arith}
use mathlib.Core.Path.{sym, ◌∙◌}
use Rattle.beliefs.proofs.counting.Explored.{explored_few, explored_front, left_finals}
use Rattle.beliefs.proofs.counting.explore_beliefs.Goals as goal

pub slice_bounds-copy_from_slice-end : goal.slice_bounds-copy_from_slice-end
slice_bounds-copy_from_slice-end c =
    let a = c.args.automaton.now in
    let few = explored_few a.sets.now a.successors.now a.states a.pairs a.hiddens c.in-Some.k (sym c.in-Some.is ∙ c.count_beliefs.ensures.value) in
    omega (arith, few)

pub slice_bounds-copy_from_slice-end-in-Some : goal.slice_bounds-copy_from_slice-end-in-Some
slice_bounds-copy_from_slice-end-in-Some c =
    let a = c.args.automaton.now in
    let front = explored_front a.sets.now a.successors.now a.states a.pairs a.hiddens c.in-Some.k (sym c.in-Some.is ∙ c.count_beliefs.ensures.value) in
    sym (front c.args.finals.now c.requires.belief_limit_in_bounds)

pub slice_bounds-marks-end : goal.slice_bounds-marks-end
slice_bounds-marks-end c =
    let a = c.args.automaton.now in
    let few = explored_few a.sets.now a.successors.now a.states a.pairs a.hiddens c.in-Some.k (sym c.in-Some.is ∙ c.count_beliefs.ensures.value) in
    omega (arith, few)

pub slice_bounds-copy_from_slice-end-in-Some-2 : goal.slice_bounds-copy_from_slice-end-in-Some-2
slice_bounds-copy_from_slice-end-in-Some-2 c =
    let a = c.args.automaton.now in
    let front = explored_front a.sets.now a.successors.now a.states a.pairs a.hiddens c.in-Some.k (sym c.in-Some.is ∙ c.count_beliefs.ensures.value) in
    sym (front c.count_beliefs.new.finals (omega arith))

pub copy_from_slice-requires : goal.copy_from_slice-requires
copy_from_slice-requires c =
    let a = c.args.automaton.now in
    let front = explored_front a.sets.now a.successors.now a.states a.pairs a.hiddens c.in-Some.k (sym c.in-Some.is ∙ c.count_beliefs.ensures.value) in
    front c.args.finals.now c.requires.belief_limit_in_bounds ∙ sym (front c.count_beliefs.new.finals (omega arith))

pub returns-in-None-clause-finals_after : goal.returns-in-None-clause-finals_after
returns-in-None-clause-finals_after c =
    left_finals _ _ _ _ _ (sym c.in-None.is ∙ c.count_beliefs.ensures.value) c.args.finals.now
