-- `printer::writing::put_row` meets its contract: the word, the two numbers, the moves and the end are its parts.
-- Assumes nothing.
use native.Mathlib.Omega.{arith}
use Rattle.basics.proofs.WriterLaws.{puts_then, puts_as}
use Rattle.printer.proofs.TextLaws.{row_parts, row_size_of}
use Rattle.printer.proofs.writing.put_row.Goals as goal

pub bytes-requires : goal.bytes-requires
bytes-requires c =
    let size = row_size_of c.args.table.now.cells.now c.args.table.now.shape c.args.row _ c.rank-rank.ensures in
    omega (arith, size)

pub field-requires : goal.field-requires
field-requires c =
    let size = row_size_of c.args.table.now.cells.now c.args.table.now.shape c.args.row _ c.rank-rank.ensures in
    omega (arith, size)

pub field-requires-2 : goal.field-requires-2
field-requires-2 c =
    let size = row_size_of c.args.table.now.cells.now c.args.table.now.shape c.args.row _ c.rank-rank.ensures in
    omega (arith, size)

pub put_moves-requires-clause-row_in_bounds : goal.put_moves-requires-clause-row_in_bounds
put_moves-requires-clause-row_in_bounds c =
    let size = row_size_of c.args.table.now.cells.now c.args.table.now.shape c.args.row _ c.rank-rank.ensures in
    omega (arith, size)

pub byte-requires : goal.byte-requires
byte-requires c =
    let size = row_size_of c.args.table.now.cells.now c.args.table.now.shape c.args.row _ c.rank-rank.ensures in
    omega (arith, size)

pub returns : goal.returns
returns c =
    puts_as (row_parts c.args.table.now.cells.now c.args.table.now.shape c.args.row _ c.rank-rank.ensures)
    (puts_then c.bytes.ensures (puts_then c.field.ensures (puts_then c.field-2.ensures (puts_then c.put_moves.ensures c.byte.ensures))))
