-- `lines::adding::add_formula` meets its contract: each return by the law of its effect.
-- Assumes nothing.
use native.Mathlib.Omega.{arith}
use mathlib.Core.Path.{sym, ◌∙◌}
use Rattle.grammar.specs.Names.{names_in}
use Rattle.grammar.proofs.NamesLaws.{length_names}
use Rattle.basics.proofs.HandedOn.{there_is_none}
use Rattle.lines.specs.declared.refusal.Refusal.TheVariants.{BadFormula}
use Rattle.lines.proofs.adding.AddFormula.{not_parsed, parsed, size_count, formed, taken_count}
use Rattle.lines.proofs.adding.AddFormula.{bad_line, bad_formula, unknown_name, too_many, read_effect_lem, refused, left_answers}
use Rattle.lines.proofs.adding.TextTest.{text_short}
use Rattle.lines.proofs.adding.add_formula.Goals as goal

pub returns-then-not-is_text : goal.returns-then-not-is_text
returns-then-not-is_text c =
    let whole = refused _ _ _ _ (bad_line _ _ _ _ _ (sym c.is_text.ensures ∙ c.if-not-is_text.true)) in
    record { value = whole.0; parts_after = whole.1 }

pub read_formula-requires : goal.read_formula-requires
read_formula-requires c =
    let short = text_short _ (sym c.is_text.ensures ∙ c.if-not-is_text.false) in
    omega arith

pub returns-in_err-formula : goal.returns-in_err-formula
returns-in_err-formula c =
    let t = sym c.is_text.ensures ∙ c.if-not-is_text.false in
    let none = there_is_none c.read_formula.result (BadFormula c.args.line) _ c.in_err-formula.field-0.0 (sym c.ok_or.ensures.value ∙ c.in_err-formula.was) c.from_residual.ensures.1 in
    let whole = refused _ _ _ _ (bad_formula _ _ _ _ _ t (not_parsed (names_in c.args.names.now) _ c.read_formula.ensures.value none.0)) in
    record { value = none.1 ∙ whole.0; parts_after = whole.1 }

pub returns-then-not-all_declared : goal.returns-then-not-all_declared
returns-then-not-all_declared c =
    let t = sym c.is_text.ensures ∙ c.if-not-is_text.false in
    let f = parsed (names_in c.args.names.now) _ c.read_formula.ensures.value (BadFormula c.args.line) (sym c.ok_or.ensures.value ∙ c.in_ok-formula.was) in
    let whole = refused _ _ _ _ (unknown_name _ _ _ _ _ t f.tree f.next f.is (sym (c.all_declared.ensures c.args.s) ∙ c.if-not-all_declared.true)) in
    record { value = whole.0; parts_after = whole.1 }

pub returns-then-formula-gt-PART_LIMIT : goal.returns-then-formula-gt-PART_LIMIT
returns-then-formula-gt-PART_LIMIT c =
    let t = sym c.is_text.ensures ∙ c.if-not-is_text.false in
    let d = sym (c.all_declared.ensures c.args.s) ∙ c.if-not-all_declared.false in
    let f = parsed (names_in c.args.names.now) _ c.read_formula.ensures.value (BadFormula c.args.line) (sym c.ok_or.ensures.value ∙ c.in_ok-formula.was) in
    let whole = refused _ _ _ _ (too_many _ _ _ _ _ t f.tree f.next f.is d
    (omega (arith, c.if-formula-gt-PART_LIMIT.true, size_count _ _ (length_names c.args.names.now (omega arith)) f))) in
    record { value = whole.0; parts_after = whole.1 }

pub slice_bounds-add_cells-end : goal.slice_bounds-add_cells-end
slice_bounds-add_cells-end c =
    let f = parsed (names_in c.args.names.now) _ c.read_formula.ensures.value (BadFormula c.args.line) (sym c.ok_or.ensures.value ∙ c.in_ok-formula.was) in
    sym (taken_count _ _ (length_names c.args.names.now (omega arith)) f _ c.read_formula.ensures.cells_after c.if-formula-gt-PART_LIMIT.false c.if-formula-gt-PART_LIMIT.false)

pub returns : goal.returns
returns c =
    let t = sym c.is_text.ensures ∙ c.if-not-is_text.false in
    let f = parsed (names_in c.args.names.now) _ c.read_formula.ensures.value (BadFormula c.args.line) (sym c.ok_or.ensures.value ∙ c.in_ok-formula.was) in
    let g = formed _ _ (length_names c.args.names.now (omega arith)) f _ c.read_formula.ensures.cells_after c.if-formula-gt-PART_LIMIT.false c.if-formula-gt-PART_LIMIT.false in
    let d = sym (c.all_declared.ensures c.args.s) ∙ c.if-not-all_declared.false in
    let whole = left_answers g _ _ _ _ (read_effect_lem _ _ _ _ _ t g.tree g.next g.is d)
    (c.add_cells.ensures.value, c.add_cells.ensures.parts_after) in
    record { value = whole.0; parts_after = whole.1 }
