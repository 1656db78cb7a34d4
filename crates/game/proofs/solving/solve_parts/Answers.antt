-- `game::solving::solve_parts` meets its contract, by those of `explore` and `solve_states`.
-- Assumes nothing.
use mathlib.Core.Path.{sym, ◌∙◌}
use native.Mathlib.Omega.{arith}
use Rattle.lines.specs.declared.refusal.Refusal.TheVariants.{TooManyStates}
use Rattle.basics.proofs.HandedOn.{there_is, there_is_none}
use Rattle.game.proofs.solving.FromStates.{solved_many, pairs_are, pairs_few, letters_fit, states_successors, states_few, states_some, solved_some}
use Rattle.game.proofs.solving.solve_parts.Goals as goal

pub invariant_of-automaton : goal.invariant_of-automaton
invariant_of-automaton c =
    let s = c.args.sizes in
    let sized = c.requires.sized in
    let found = c.explore-found in
    let count = sym (there_is found.result TooManyStates c.in_ok-states.states (sym c.ok_or.ensures.value ∙ c.in_ok-states.was))
    ∙ found.ensures.value in
    let few = states_few c.args.parts.now s sized _ _ found.new.mem found.new.successors found.ensures.mem_after found.ensures.successors_after
    c.in_ok-states.states count in
    record {
      successors_len = found.auto.successors;
      sets_long = omega (arith, few, found.auto.mem, c.requires.sets_len);
      some = states_some c.args.parts.now s sized _ _ found.new.mem found.new.successors found.ensures.mem_after found.ensures.successors_after
          c.in_ok-states.states count;
      few = few;
      few_pairs = pairs_few c.args.parts.now s sized;
      few_letters = letters_fit c.args.parts.now s sized;
      closed = states_successors c.args.parts.now s sized _ _ found.new.mem found.new.successors found.ensures.mem_after found.ensures.successors_after
          c.in_ok-states.states count;
    }

pub solve_states-requires-clause-pairs : goal.solve_states-requires-clause-pairs
solve_states-requires-clause-pairs c =
    pairs_are c.args.parts.now c.args.sizes c.requires.sized

pub returns : goal.returns
returns c =
    let s = c.args.sizes in
    let sized = c.requires.sized in
    let found = c.explore-found in
    let count = sym (there_is found.result TooManyStates c.in_ok-states.states (sym c.ok_or.ensures.value ∙ c.in_ok-states.was))
    ∙ found.ensures.value in
    let answered = solved_some c.args.parts.now s sized _ _ found.new.mem found.new.successors found.ensures.mem_after found.ensures.successors_after
    c.in_ok-states.states count c.solve_states.result c.args.table.now _ (c.solve_states.ensures.value, c.solve_states.ensures.table_after) in
    record { value = answered.0; table_after = answered.1; sets_after = found.ensures.mem_after }

pub returns-in_err-states : goal.returns-in_err-states
returns-in_err-states c =
    let found = c.explore-found in
    let many = there_is_none found.result TooManyStates _ c.in_err-states.field-0.0 (sym c.ok_or.ensures.value ∙ c.in_err-states.was)
    c.from_residual.ensures.1 in
    let answered = solved_many c.args.parts.now c.args.sizes (sym many.0 ∙ found.ensures.value) c.args.table.now in
    record { value = many.1 ∙ answered.0; table_after = answered.1; sets_after = found.ensures.mem_after }
