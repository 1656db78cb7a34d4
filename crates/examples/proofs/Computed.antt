-- The table of examples, by computation: each definition that takes part is named and unfolded. Assumes nothing.
use mathlib.Core.Path.{◌≡◌, refl}
use mathlib.Core.List.{map, flat_map}
use Rattle.basics.specs.Bits.{from_bits}
use Rattle.basics.specs.Bounded.{first_that}
use Rattle.basics.specs.Bytes.{lower, word_byte, run, past, same_bytes}
use Rattle.basics.specs.Reach.{is_in, index_in, add_new, add_all, explore, reachable}
use Rattle.basics.specs.Text.{digits}
use Rattle.syntax.specs.Lex.{plan_kind, word_kind, token_from, token_at, more, tokens_f, tokens}
use Rattle.grammar.specs.Grammar.{is_op, leftward, is_pre, is_leaf}
use Rattle.grammar.specs.Parse.{bind, on, close, parse_f, parse}
use Rattle.grammar.specs.PlanParse.{number_at, head_of, head_at, second_at, plan_at, parse_formula}
use Rattle.grammar.specs.Names.{index_of, leaf_value}
use Rattle.formula.specs.Constraints.{soon, hold, delay}
use Rattle.formula.specs.Formula.{size, operators}
use Rattle.formula.specs.Letter.{is_letter}
use Rattle.formula.specs.Parts.{op_of, temporals, parts_from, parts_of, part_at, bottom_up, result_at}
use Rattle.formula.specs.Semantics.{holds}
use Rattle.formula.specs.Values.{value_with}
use Rattle.lines.specs.Lines.{lines, tab_place, word_of, is_name, is_text, order_named}
use Rattle.lines.specs.Effect.{formula_of, all_declared, declare_effect, state_effect, effect_of}
use Rattle.rules.specs.Problem.{read_lines, read_problem}
use Rattle.rules.specs.Trace.{bad_step, verdict_on}
use Rattle.rules.specs.Judge.{judged}
use Rattle.obligations.specs.Obligation.{operators_of, number_of, spots_to, spots, value_at, owed_at, back}
use Rattle.obligations.specs.Letters.{letters_of}
use Rattle.search.specs.PatternSet.{member, set_of, start, accepts, next, after}
use Rattle.search.specs.ReachableSets.{same_set, next_sets, reachable_sets}
use Rattle.states.specs.States.{start_state, next_state, state_after, states_of}
use Rattle.play.specs.Cells.{stop_row, choice_row, with_rank}
use Rattle.game.specs.SolvedAs.{solved_by, cells_by}
use Rattle.cabinet.specs.Response.{response}
use Rattle.examples.specs.Examples.{answer, expected, examples}

pub computed : map answer examples ≡ map expected examples
unfolding from_bits first_that lower word_byte run past same_bytes is_in index_in add_new add_all explore reachable digits flat_map
    plan_kind word_kind token_from token_at more tokens_f tokens is_op leftward is_pre is_leaf bind on close parse_f parse
    number_at head_of head_at second_at plan_at parse_formula soon hold delay index_of leaf_value
    size operators is_letter op_of temporals parts_from parts_of part_at bottom_up result_at holds value_with
    lines tab_place word_of is_name is_text order_named formula_of all_declared declare_effect state_effect effect_of read_lines read_problem bad_step verdict_on judged
    operators_of number_of spots_to spots value_at owed_at back letters_of member set_of start accepts next after same_set next_sets reachable_sets
    start_state next_state state_after states_of stop_row choice_row with_rank solved_by cells_by response
computed = refl
