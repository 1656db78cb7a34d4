-- `compare::plain::solve` is safe and ends. Assumes nothing.
use Rattle.std.proofs.Common.{sym, arith}
use Rattle.rules.proofs.JudgeLaws.{taken, taken_length, few_parts}
use Rattle.compare.proofs.plain.solve.Goals as goal

pub slice_bounds-parts-end : goal.slice_bounds-parts-end
slice_bounds-parts-end c =
    omega (arith, few_parts (taken c.args.source.now c.in_ok-s.s c.read.result c.read.ensures.value c.in_ok-s.was _ c.read.ensures.parts_after), c.read.auto.parts)

pub slice_bounds-solve_parts-end : goal.slice_bounds-solve_parts-end
slice_bounds-solve_parts-end c =
    sym (taken_length (taken c.args.source.now c.in_ok-s.s c.read.result c.read.ensures.value c.in_ok-s.was _ c.read.ensures.parts_after))

pub solve_parts-requires : goal.solve_parts-requires
solve_parts-requires c =
    let t = taken c.args.source.now c.in_ok-s.s c.read.result c.read.ensures.value c.in_ok-s.was _ c.read.ensures.parts_after in
    omega (arith, taken_length t, few_parts t)
