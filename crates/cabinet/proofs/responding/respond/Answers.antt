-- `cabinet::responding::respond` meets its contract, by those of `solve`, `print` and `put_refusal`.
-- Assumes nothing.
use Rattle.std.specs.Prelude.{Ok}
use Prim.Native.Nat.{◌*◌}
use native.Mathlib.Omega.{arith}
use mathlib.Core.Path.{sym, ap}
use lib.ListN.{length}
use lib.Seq.{length-take-le}
use Rattle.wellformed.proofs.WellFormedLaws.{size_fits}
use Rattle.cabinet.proofs.ResponseLaws.{tight_right, text_long, few_rows, rows_within, table_right, refusal_right}
use Rattle.cabinet.proofs.responding.respond.Goals as goal

pub returns-then-work-table : goal.returns-then-work-table
returns-then-work-table c =
    let m = tight_right c.args.source.now c.args.work.now c.args.table.now c.args.text.now c.if-work-table.true in
    record { answer = m.0; bytes = m.1; rows = m.2; cleared = m.3; due = m.4 }

pub overflow_mul-end : goal.overflow_mul-end
overflow_mul-end c =
    let few = few_rows c.args.source.now c.args.work.now c.args.table.now c.args.text.now c.if-work-table.false c.solve.result c.solve.new.table
    c.solve.new.work c.solve.ensures.answer c.solve.ensures.rows c.solve.ensures.cleared c.in-Ok.solved.shape c.in-Ok.solved.worst_case c.in-Ok.is c.solve.ensures.due in
    omega (arith, size_fits c.in-Ok.solved.shape.order c.in-Ok.solved.shape.rows c.row_size.result few c.row_size.ensures)

pub slice_bounds-print-end : goal.slice_bounds-print-end
slice_bounds-print-end c =
    rows_within c.args.source.now c.args.work.now c.args.table.now c.args.text.now c.if-work-table.false c.solve.result c.solve.new.table
    c.solve.new.work c.solve.ensures.answer c.solve.ensures.rows c.solve.ensures.cleared c.in-Ok.solved.shape c.in-Ok.solved.worst_case c.in-Ok.is c.solve.ensures.due
    (c.in-Ok.solved.shape.rows * c.row_size.result) (ap (λ k. c.in-Ok.solved.shape.rows * k) c.row_size.ensures)

pub slice_bounds-print-end-in-Ok : goal.slice_bounds-print-end-in-Ok
slice_bounds-print-end-in-Ok c =
    sym (length-take-le (c.in-Ok.solved.shape.rows * c.row_size.result) c.solve.new.table
    (rows_within c.args.source.now c.args.work.now c.args.table.now c.args.text.now c.if-work-table.false c.solve.result c.solve.new.table
    c.solve.new.work c.solve.ensures.answer c.solve.ensures.rows c.solve.ensures.cleared c.in-Ok.solved.shape c.in-Ok.solved.worst_case c.in-Ok.is c.solve.ensures.due
    (c.in-Ok.solved.shape.rows * c.row_size.result) (ap (λ k. c.in-Ok.solved.shape.rows * k) c.row_size.ensures)))

pub put_refusal-requires : goal.put_refusal-requires
put_refusal-requires c =
    text_long (length c.args.work.now) (length c.args.table.now) (length c.args.text.now) c.if-work-table.false

pub returns-in-Ok : goal.returns-in-Ok
returns-in-Ok c =
    let m = table_right c.args.source.now c.args.work.now c.args.table.now c.args.text.now c.if-work-table.false c.solve.result c.solve.new.table
    c.solve.new.work c.solve.ensures.answer c.solve.ensures.rows c.solve.ensures.cleared c.in-Ok.solved.shape c.in-Ok.solved.worst_case c.in-Ok.is c.solve.ensures.due
    (c.in-Ok.solved.shape.rows * c.row_size.result) (ap (λ k. c.in-Ok.solved.shape.rows * k) c.row_size.ensures)
    c.print.result c.print.new.text c.print.ensures.answer c.print.ensures.bytes in
    record { answer = m.0; bytes = m.1; rows = m.2; cleared = m.3; due = m.4 }

pub returns-in-Err : goal.returns-in-Err
returns-in-Err c =
    let m = refusal_right c.args.source.now c.args.work.now c.args.table.now c.args.text.now c.if-work-table.false c.solve.result c.solve.new.table
    c.solve.new.work c.solve.ensures.answer c.solve.ensures.rows c.solve.ensures.cleared c.in-Err.r c.in-Err.is (Ok c.put_refusal.result) c.put_refusal.new.text
    (ap Ok c.put_refusal.ensures.value) c.put_refusal.ensures.text_after in
    record { answer = m.0; bytes = m.1; rows = m.2; cleared = m.3; due = m.4 }
