-- `game::solving::solve_source` meets its contract, by those of `read` and `solve_parts`.
-- Assumes nothing.
use native.Mathlib.Omega.{arith}
use mathlib.Core.Path.{sym, ◌∙◌}
use Rattle.basics.proofs.HandedOn.{handed_on}
use Rattle.rules.specs.Problem.{read_problem}
use Rattle.rules.proofs.JudgeLaws.{taken, taken_length, few_parts}
use Rattle.game.proofs.solving.FromSource.{refused_right, stored_taken, sized_taken, source_right}
use Rattle.game.proofs.solving.solve_source.Goals as goal

pub slice_bounds-parts-end : goal.slice_bounds-parts-end
slice_bounds-parts-end c =
    omega (arith, few_parts (taken c.args.source.now c.in_ok-s.s c.read.result c.read.ensures.value c.in_ok-s.was _ c.read.ensures.parts_after), c.read.auto.parts)

pub slice_bounds-solve_parts-end : goal.slice_bounds-solve_parts-end
slice_bounds-solve_parts-end c =
    sym (taken_length (taken c.args.source.now c.in_ok-s.s c.read.result c.read.ensures.value c.in_ok-s.was _ c.read.ensures.parts_after))

pub solve_parts-requires : goal.solve_parts-requires
solve_parts-requires c =
    let t = taken c.args.source.now c.in_ok-s.s c.read.result c.read.ensures.value c.in_ok-s.was _ c.read.ensures.parts_after in
    record { stored = stored_taken t; sized = sized_taken t; sets_len = c.requires.sets_len; table_size_in_bounds = c.requires.table_size_in_bounds }

pub returns-in_err-s : goal.returns-in_err-s
returns-in_err-s c =
    let whole = refused_right (read_problem c.args.source.now) c.read.result c.in_err-s.field-0.0 c.args.table.now c.args.sets.now c.read.ensures.value
    c.in_err-s.was in
    record { value = handed_on _ c.in_err-s.field-0.0 c.from_residual.ensures.1 ∙ whole.0; table_after = whole.1.0; sets_after = whole.1.1 }

pub returns : goal.returns
returns c =
    let whole = source_right (taken c.args.source.now c.in_ok-s.s c.read.result c.read.ensures.value c.in_ok-s.was _ c.read.ensures.parts_after)
    c.solve_parts.result c.args.table.now c.solve_parts.new.table c.args.sets.now c.solve_parts.new.sets
    c.solve_parts.ensures.value c.solve_parts.ensures.table_after c.solve_parts.ensures.sets_after in
    record { value = whole.0; table_after = whole.1.0; sets_after = whole.1.1 }
