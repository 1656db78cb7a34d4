use mathlib.Core.Path.{◌≡◌, refl, ap, ◌∙◌}
use Rattle.std.proofs.Common.{replicate}
use Rattle.grammar.specs.Parse.{none}
use Rattle.grammar.specs.PlanParse.{parse_formula}
use Rattle.grammar.proofs.AnswerLaws.{got, got_none, formula_bad, formula_more, formula_done}
use Rattle.grammar.proofs.phrase.read_formula.Goals.{in_default-via-in-Some+else-token_at-eq-END, in_default-via-in_default}
use Rattle.grammar.proofs.phrase.read_formula.Goals as goal

pub returns-in-Some : goal.returns-in-Some
returns-in-Some c =
    let whole = formula_done _ (got _ c.read_level.ensures c.in-Some.is) _ c.token_at.ensures c.if-token_at-eq-END.true in
    record { value = whole.0; cells_after = whole.1 }

pub returns-in_default : goal.returns-in_default
returns-in_default c =
    let e : parse_formula c.args.text.now ≡ none = elim c.in_default.branch [
      | in_default-via-in-Some+else-token_at-eq-END w ↦
          formula_more _ (got _ c.read_level.ensures w.in-Some.is) _ w.token_at.ensures w.if-token_at-eq-END.false
      | in_default-via-in_default w ↦ formula_bad _ (got_none _ c.read_level.ensures w.in_default.is)
    ] in
    let cleared = c.fill.ensures.after (λ y e. e) ∙ ap (λ k. replicate k 0) c.read_level.auto.cells in
    rw e (record { value = refl; cells_after = cleared })
