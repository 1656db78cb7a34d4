-- `lines::adding::add_cells` meets its contract.
-- Assumes nothing.
use native.Mathlib.Omega.{arith}
use mathlib.Core.Path.{refl}
use Rattle.lines.proofs.CellKinds.{temporals_few}
use Rattle.lines.proofs.adding.AddFormula.{many_parts, many_operators, few_operators}
use Rattle.lines.proofs.adding.add_cells.Goals as goal

pub returns-then-all-gt-PART_LIMIT : goal.returns-then-all-gt-PART_LIMIT
returns-then-all-gt-PART_LIMIT c =
    let whole = many_parts c.args.cells.now c.args.line c.args.s c.args.parts.now _ _ refl c.with_joint-all.ensures c.if-all-gt-PART_LIMIT.true in
    record { value = whole.0; parts_after = whole.1 }

pub overflow_add-m : goal.overflow_add-m
overflow_add-m c =
    omega (arith, c.temporals_in.ensures, temporals_few c.args.cells.now)

pub returns-then-m-gt-OPERATOR_LIMIT : goal.returns-then-m-gt-OPERATOR_LIMIT
returns-then-m-gt-OPERATOR_LIMIT c =
    let whole = many_operators c.args.cells.now c.args.line c.args.s c.args.parts.now
    _ _ refl c.with_joint-all.ensures c.if-all-gt-PART_LIMIT.false
    _ c.temporals_in.ensures c.if-m-gt-OPERATOR_LIMIT.true in
    record { value = whole.0; parts_after = whole.1 }

pub returns : goal.returns
returns c =
    let whole = few_operators c.args.cells.now c.args.line c.args.s c.args.parts.now
    _ _ refl c.with_joint-all.ensures c.if-all-gt-PART_LIMIT.false
    _ c.temporals_in.ensures c.if-m-gt-OPERATOR_LIMIT.false _ _ c.put_codes.ensures
    c.join.ensures in
    record { value = whole.0; parts_after = whole.1 }
