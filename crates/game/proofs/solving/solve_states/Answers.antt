-- `game::solving::solve_states` meets its contract, by those of `explore_beliefs` and `answer`.
-- Assumes nothing.
use Prim.Native.Nat.{◌^◌}
use mathlib.Core.Path.{sym, ◌∙◌}
use lib.Pow.{pow-add}
use Rattle.lines.specs.Memory.{order_in}
use Rattle.lines.specs.declared.refusal.Refusal.TheVariants.{TooManyBeliefs}
use Rattle.basics.proofs.HandedOn.{there_is, there_is_none}
use Rattle.game.proofs.solving.FromBeliefs.{shifted_widths, counted_positions, solved_verdict, solved_many}
use Rattle.game.proofs.solving.FromBeliefs.{explored_shifted, answered_shifted}
use Rattle.game.proofs.solving.solve_states.Goals as goal

pub invariant_of-arena : goal.invariant_of-arena
invariant_of-arena c =
    let a = c.args.automaton.now in
    let few = c.requires.outputs_few in
    let found = c.explore_beliefs-found in
    let count = sym (there_is found.result TooManyBeliefs c.in_ok-count.count (sym c.ok_or.ensures.value ∙ c.in_ok-count.was))
    ∙ found.ensures.value in
    let explored = explored_shifted c.args.sizes few c.requires.observed_few a.sets.now a.successors.now a.states a.hiddens a.pairs c.requires.pairs
    c.in_ok-count.count _ _ _ (record { count = count; rows_are = found.ensures.moves_after; marked = found.ensures.finals_after }) in
    record {
      positions = counted_positions _ _ _ _ _ _ (shifted_widths c.args.sizes few c.requires.observed_few) c.in_ok-count.count _ _ _ explored
          found.auto.moves found.auto.finals;
    }

pub returns : goal.returns
returns c =
    let a = c.args.automaton.now in
    let s = c.args.sizes in
    let few = c.requires.outputs_few in
    let found = c.explore_beliefs-found in
    let count = sym (there_is found.result TooManyBeliefs c.in_ok-count.count (sym c.ok_or.ensures.value ∙ c.in_ok-count.was))
    ∙ found.ensures.value in
    let explored = explored_shifted s few c.requires.observed_few a.sets.now a.successors.now a.states a.hiddens a.pairs c.requires.pairs
    c.in_ok-count.count _ _ _ (record { count = count; rows_are = found.ensures.moves_after; marked = found.ensures.finals_after }) in
    let answered = solved_verdict c.order_of-order.result _ _ _ _ _ _ s.observed (shifted_widths s few c.requires.observed_few) c.in_ok-count.count
    _ _ _ explored c.answer-outcome.result c.args.table.now _ c.answer-outcome.ensures.value c.answer-outcome.ensures.table_after in
    let right = answered_shifted s few c.requires.observed_few _ _ _ _ c.order_of-order.result c.order_of-order.ensures _
    c.args.table.now _ answered in
    record { value = c.solved_with.ensures ∙ right.0; table_after = right.1 }

pub returns-in_err-count : goal.returns-in_err-count
returns-in_err-count c =
    let a = c.args.automaton.now in
    let many = there_is_none c.explore_beliefs-found.result TooManyBeliefs _ c.in_err-count.field-0.0
    (sym c.ok_or.ensures.value ∙ c.in_err-count.was) c.from_residual.ensures.1 in
    let whole = solved_many (order_in c.args.sizes) a.sets.now a.successors.now a.states (2 ^ c.args.sizes.outputs) (2 ^ c.args.sizes.observed)
    a.hiddens c.args.sizes.observed a.pairs (c.requires.pairs ∙ pow-add 2 c.args.sizes.outputs c.args.sizes.observed)
    (sym many.0 ∙ c.explore_beliefs-found.ensures.value) c.args.table.now in
    record { value = many.1 ∙ whole.0; table_after = whole.1 }
