use native.Mathlib.Omega.{arith}
use Rattle.rules.proofs.ReadingLaws.{begin, line_in, unended_line, refused_line, accepted_line, no_formula, some_formula}
use mathlib.Core.Path.{◌∙◌}
use Rattle.basics.proofs.HandedOn.{handed_on}
use Rattle.rules.proofs.ReadingLaws.{refused_answer}
use Rattle.rules.proofs.reader.read_lines.Goals as goal

pub loop-at-init : goal.loop-at-init
loop-at-init c =
    begin _ c.args.parts.now c.requires.parts_len

pub returns-then-end-source : goal.returns-then-end-source
returns-then-end-source c =
    let whole = refused_answer _ _ _ _ (unended_line c.loop-at.invariant c.past-end.ensures (omega arith) c.if-end-source.true) in
    record { value = whole.0; parts_read = whole.1 }

pub slice_bounds-read_line-count : goal.slice_bounds-read_line-count
slice_bounds-read_line-count c =
    omega (arith, line_in c.loop-at.invariant c.past-end.ensures (omega arith))

pub slice_bounds-read_line-start : goal.slice_bounds-read_line-start
slice_bounds-read_line-start c =
    omega (arith, line_in c.loop-at.invariant c.past-end.ensures (omega arith))

pub slice_bounds-read_line-end : goal.slice_bounds-read_line-end
slice_bounds-read_line-end c =
    omega (arith, line_in c.loop-at.invariant c.past-end.ensures (omega arith))

pub returns-in_err-s : goal.returns-in_err-s
returns-in_err-s c =
    let i = line_in c.loop-at.invariant c.past-end.ensures (omega arith) in
    let whole = refused_answer _ _ _ _
    (refused_line c.loop-at.invariant c.past-end.ensures (omega arith) (omega (arith, i, c.if-end-source.false))
    c.read_line.ensures _ c.in_err-s.was) in
    record { value = handed_on _ c.in_err-s.field-0.0 c.from_residual.ensures.1 ∙ whole.0; parts_read = whole.1 }

pub loop-at-smaller : goal.loop-at-smaller
loop-at-smaller c =
    omega (arith, line_in c.loop-at.invariant c.past-end.ensures (omega arith), c.if-end-source.false)

pub loop-at-preserved : goal.loop-at-preserved
loop-at-preserved c =
    let i = line_in c.loop-at.invariant c.past-end.ensures (omega arith) in
    accepted_line c.loop-at.invariant c.past-end.ensures (omega arith) (omega (arith, i, c.if-end-source.false))
    c.read_line.ensures _ c.in_ok-s.was

pub returns-then-s-eq0 : goal.returns-then-s-eq0
returns-then-s-eq0 c =
    let whole = refused_answer _ _ _ _ (no_formula c.loop-at.invariant c.loop-at-test.false c.if-s-eq0.true) in
    record { value = whole.0; parts_read = whole.1 }

pub returns : goal.returns
returns c =
    let whole = some_formula c.loop-at.invariant c.loop-at-test.false c.if-s-eq0.false _ c.ordered.ensures in
    record { value = whole.0; parts_read = whole.1 }
