use mathlib.Core.List.{flat_map}
use Rattle.basics.proofs.WriterLaws.{puts_none, turn_room, turn_puts}
use Rattle.printer.specs.Text.{row_text}
use Rattle.printer.proofs.writing.put_rows.Goals as goal

pub loop-row-init : goal.loop-row-init
unfolding flat_map
loop-row-init c = puts_none

pub put_row-requires-clause-row_in_bounds : goal.put_row-requires-clause-row_in_bounds
put_row-requires-clause-row_in_bounds c =
    let t = c.args.table.now in
    turn_room (row_text t.cells.now t.shape) (λ row. row) c.loop-row.row c.loop-row.invariant t.shape.rows c.requires c.loop-row-test.true

pub loop-row-preserved : goal.loop-row-preserved
loop-row-preserved c =
    let t = c.args.table.now in
    turn_puts (row_text t.cells.now t.shape) (λ row. row) c.loop-row.row c.loop-row.invariant c.put_row.ensures
