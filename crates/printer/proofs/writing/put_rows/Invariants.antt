-- `printer::writing::put_rows` meets its contract. The invariant: the rows passed are put.
-- Assumes nothing.
use Rattle.basics.specs.Writer.{Puts}
use Rattle.printer.specs.Text.{rows_text}
use Rattle.printer.proofs.writing.put_rows.Given as goal

abbrev pub invariant-loop-row : goal.invariant-loop-row
invariant-loop-row l =
    Puts l.initial.out l.out (rows_text l.table.cells.now l.table.shape l.row)
