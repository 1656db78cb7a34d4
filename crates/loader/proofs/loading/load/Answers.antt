-- `loader::loading::load` meets its contract, by those of the functions that it calls.
-- Assumes nothing.
use native.Mathlib.Omega.{arith}
use mathlib.Core.Path.{sym}
use lib.ListN.{replicate, length-take}
use lib.Seq.{length-take-le}
use Rattle.play.specs.Cells.{table_size}
use Rattle.loader.proofs.LoadedAsLaws.{load_short, cells_ask, size_few, cells_in_lem, cells_long, fault_asks, count_le, load_counted}
use Rattle.loader.proofs.loading.load.Goals as goal

pub returns-then-table-lt-TABLE_SIZE : goal.returns-then-table-lt-TABLE_SIZE
returns-then-table-lt-TABLE_SIZE c =
    let whole = load_short c.args.text.now c.args.table.now c.if-table-lt-TABLE_SIZE.true in
    record { answer = whole.0; rows = whole.1.0; due = whole.1.1 }

pub put_rows-requires : goal.put_rows-requires
put_rows-requires c =
    cells_ask c.args.text.now c.shape_in-told.ensures

pub overflow_mul-end : goal.overflow_mul-end
overflow_mul-end c =
    omega (arith, size_few c.args.text.now c.shape_in-told.ensures (replicate table_size 0) c.put_rows.ensures c.row_size.ensures)

pub slice_bounds-cells-end : goal.slice_bounds-cells-end
slice_bounds-cells-end c =
    cells_in_lem c.args.text.now c.shape_in-told.ensures (replicate table_size 0) c.put_rows.ensures c.row_size.ensures

pub slice_bounds-fault_in-end : goal.slice_bounds-fault_in-end
slice_bounds-fault_in-end c =
    cells_long c.args.text.now c.shape_in-told.ensures (replicate table_size 0) c.put_rows.ensures c.row_size.ensures

pub fault_in-fault-requires : goal.fault_in-fault-requires
fault_in-fault-requires c =
    fault_asks c.args.text.now c.shape_in-told.ensures (replicate table_size 0) c.put_rows.ensures c.row_size.ensures c.worst_in-worst.ensures

pub slice_bounds-cells-end-2 : goal.slice_bounds-cells-end-2
slice_bounds-cells-end-2 c =
    let inside = cells_in_lem c.args.text.now c.shape_in-told.ensures (replicate table_size 0) c.put_rows.ensures c.row_size.ensures in
    let count = count_le c.args.text.now c.shape_in-told.ensures (replicate table_size 0) c.put_rows.ensures c.row_size.ensures _ c.count_at-used.ensures in
    omega (arith, inside, count)

pub slice_bounds-copy-end : goal.slice_bounds-copy-end
slice_bounds-copy-end c =
    let inside = cells_in_lem c.args.text.now c.shape_in-told.ensures (replicate table_size 0) c.put_rows.ensures c.row_size.ensures in
    let count = count_le c.args.text.now c.shape_in-told.ensures (replicate table_size 0) c.put_rows.ensures c.row_size.ensures _ c.count_at-used.ensures in
    sym (length-take-le _ _ (omega (arith, inside, count)))

pub copy-requires : goal.copy-requires
copy-requires c =
    let few = size_few c.args.text.now c.shape_in-told.ensures (replicate table_size 0) c.put_rows.ensures c.row_size.ensures in
    let count = count_le c.args.text.now c.shape_in-told.ensures (replicate table_size 0) c.put_rows.ensures c.row_size.ensures _ c.count_at-used.ensures in
    simp length-take (omega (arith, few, c.if-table-lt-TABLE_SIZE.false, count))

pub returns : goal.returns
returns c =
    let whole = load_counted c.args.text.now c.shape_in-told.ensures (replicate table_size 0) c.put_rows.ensures c.row_size.ensures c.worst_in-worst.ensures
    c.args.table.now c.if-table-lt-TABLE_SIZE.false c.fault_in-fault.ensures c.count_at-used.ensures _ c.answer_at.ensures _ c.copy.ensures in
    record { answer = whole.0; rows = whole.1.0; due = whole.1.1 }
