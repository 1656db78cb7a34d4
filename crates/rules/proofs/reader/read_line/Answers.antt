-- `rules::reader::read_line` meets its contract: each return by the law of its word.
-- Assumes nothing.
use native.Mathlib.Omega.{arith}
use mathlib.Core.Path.{sym}
use lib.Seq.{length-take-le}
use Rattle.grammar.specs.Names.{names_in}
use Rattle.lines.proofs.LineFields.{tab_in, tab_below, no_tab, declare_word, rule_word, order_word_lem, unknown_word}
use Rattle.rules.proofs.reader.read_line.Goals as goal

pub returns-then-tab-bytes : goal.returns-then-tab-bytes
returns-then-tab-bytes c =
    no_tab _ c.args.line c.args.s (names_in c.args.names.now) c.args.parts.now _ c.past-tab.ensures (omega (arith, c.if-tab-bytes.true))

pub overflow_add-second : goal.overflow_add-second
overflow_add-second c =
    omega (arith, tab_below _ _ c.past-tab.ensures c.if-tab-bytes.false)

pub slice_bounds-second-count : goal.slice_bounds-second-count
slice_bounds-second-count c =
    omega (arith, tab_below _ _ c.past-tab.ensures c.if-tab-bytes.false)

pub slice_bounds-second-start : goal.slice_bounds-second-start
slice_bounds-second-start c =
    omega (arith, tab_below _ _ c.past-tab.ensures c.if-tab-bytes.false)

pub slice_bounds-word_of-end : goal.slice_bounds-word_of-end
slice_bounds-word_of-end c =
    sym (length-take-le c.past-tab.result c.args.bytes.now (tab_in _ _ c.past-tab.ensures))

pub returns-in-Declare : goal.returns-in-Declare
returns-in-Declare c =
    declare_word _ c.args.line c.args.s (names_in c.args.names.now) c.args.parts.now _ c.past-tab.ensures
    (tab_below _ _ c.past-tab.ensures c.if-tab-bytes.false) _ c.word_of.ensures _ c.in-Declare.is c.declare.ensures.value c.declare.ensures.names_after

pub returns-in-Rule : goal.returns-in-Rule
returns-in-Rule c =
    rule_word _ c.args.line c.args.s (names_in c.args.names.now) c.args.parts.now _ c.past-tab.ensures
    (tab_below _ _ c.past-tab.ensures c.if-tab-bytes.false) _ c.word_of.ensures c.in-Rule.is c.add_formula.ensures.value c.add_formula.ensures.parts_after

pub returns-in-Order : goal.returns-in-Order
returns-in-Order c =
    order_word_lem _ c.args.line c.args.s (names_in c.args.names.now) c.args.parts.now _ c.past-tab.ensures
    (tab_below _ _ c.past-tab.ensures c.if-tab-bytes.false) _ c.word_of.ensures c.in-Order.is c.add_order.ensures

pub returns-in-Unknown : goal.returns-in-Unknown
returns-in-Unknown c =
    unknown_word _ c.args.line c.args.s (names_in c.args.names.now) c.args.parts.now _ c.past-tab.ensures
    (tab_below _ _ c.past-tab.ensures c.if-tab-bytes.false) _ c.word_of.ensures c.in-Unknown.is
