use native.Mathlib.Omega.{arith}
use mathlib.Core.Path.{sym, ap, ◌∙◌}
use Rattle.syntax.proofs.LexLaws.{tok_high, tok_ordered}
use mathlib.Core.Bool.{not}
use Rattle.grammar.specs.Names.{names_in}
use Rattle.lines.specs.Memory.{signals_in}
use Rattle.lines.proofs.DeclaredNames.{declared_some, declared_end, token_past, declared_other, declared_name, declared_none}
use Rattle.lines.proofs.adding.all_declared.Goals.{else-t-eq-NAME-via-then-t-eq-NAME+else-is_none, else-t-eq-NAME-via-else-t-eq-NAME}
use Rattle.lines.proofs.adding.all_declared.Goals as goal

pub returns-then-t-eq-END : goal.returns-then-t-eq-END
returns-then-t-eq-END c s =
    sym (c.loop-t.invariant.1 s
    ∙ declared_end _ _ c.loop-t.invariant.0 _ c.token_at-t.ensures _ c.if-t-eq-END.true)

pub slice_bounds-lookup-count : goal.slice_bounds-lookup-count
slice_bounds-lookup-count c =
    tok_ordered _ _ c.loop-t.invariant.0 _ c.token_at-t.ensures

pub slice_bounds-lookup-start : goal.slice_bounds-lookup-start
slice_bounds-lookup-start c =
    let o = tok_ordered _ _ c.loop-t.invariant.0 _ c.token_at-t.ensures in
    let h = tok_high _ _ c.loop-t.invariant.0 _ c.token_at-t.ensures in
    omega arith

pub slice_bounds-lookup-end : goal.slice_bounds-lookup-end
slice_bounds-lookup-end c =
    tok_high _ _ c.loop-t.invariant.0 _ c.token_at-t.ensures

pub returns-then-is_none : goal.returns-then-is_none
returns-then-is_none c s =
    let d = sym (declared_some (signals_in s (names_in c.args.names.now)) _ c.lookup.ensures) ∙ c.is_none.ensures ∙ ap not c.if-is_none.true in
    sym (c.loop-t.invariant.1 s
    ∙ declared_none _ _ c.loop-t.invariant.0 _ c.token_at-t.ensures c.if-t-eq-END.false _ c.if-t-eq-NAME.true d)

pub loop-t-smaller : goal.loop-t-smaller
loop-t-smaller c =
    let p = token_past _ _ c.loop-t.invariant.0 _ c.token_at-t.ensures c.if-t-eq-END.false in
    let h = tok_high _ _ c.loop-t.invariant.0 _ c.token_at-t.ensures in
    omega arith

pub loop-t-preserved : goal.loop-t-preserved
loop-t-preserved c = (
  tok_high _ _ c.loop-t.invariant.0 _ c.token_at-t.ensures,
  λ s. c.loop-t.invariant.1 s ∙ elim c.else-t-eq-NAME.branch [
    | else-t-eq-NAME-via-then-t-eq-NAME+else-is_none w ↦
        let d = sym (declared_some (signals_in s (names_in c.args.names.now)) _ w.lookup.ensures) ∙ w.is_none.ensures ∙ ap not w.if-is_none.false in
        declared_name _ _ c.loop-t.invariant.0 _ c.token_at-t.ensures c.if-t-eq-END.false _ w.if-t-eq-NAME.true d
    | else-t-eq-NAME-via-else-t-eq-NAME w ↦
        declared_other _ _ c.loop-t.invariant.0 _ c.token_at-t.ensures c.if-t-eq-END.false _ w.if-t-eq-NAME.false
  ],
)
