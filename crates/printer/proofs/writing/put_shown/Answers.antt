use mathlib.Core.Path.{ap, ◌∙◌}
use mathlib.Core.List.{flat_map}
use Rattle.basics.specs.Text.{field}
use Rattle.basics.proofs.WriterLaws.{puts_none, turn_room, turn_puts}
use Rattle.printer.specs.Text.{shown_count}
use Rattle.printer.proofs.TextLaws.{shown}
use Rattle.printer.proofs.writing.put_shown.Goals as goal

pub loop-i-init : goal.loop-i-init
unfolding flat_map
loop-i-init c = puts_none

pub field-requires : goal.field-requires
field-requires c =
    let t = c.args.table.now in
    let count = c.shown_count-i-end.ensures ∙ ap (shown_count t.shape.order) c.observations.ensures.value in
    rw (c.cell.ensures, c.shown_from-from.ensures)
    (turn_room field (shown t.shape.order t.cells.now c.args.row) c.loop-i.i c.loop-i.invariant _ c.requires.row_in_bounds (rw (← count) c.loop-i-test.true))

pub loop-i-preserved : goal.loop-i-preserved
loop-i-preserved c =
    let t = c.args.table.now in
    turn_puts field (shown t.shape.order t.cells.now c.args.row) c.loop-i.i c.loop-i.invariant (rw (← c.shown_from-from.ensures, ← c.cell.ensures) c.field.ensures)
