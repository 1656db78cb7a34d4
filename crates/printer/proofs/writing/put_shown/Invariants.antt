-- `printer::writing::put_shown` meets its contract. The invariant: the cells passed are put.
-- Assumes nothing.
use mathlib.Core.List.{flat_map}
use Rattle.basics.specs.Lists.{tabulate}
use Rattle.basics.specs.Text.{field}
use Rattle.basics.specs.Writer.{Puts}
use Rattle.printer.proofs.TextLaws.{shown}
use Rattle.printer.proofs.writing.put_shown.Given as goal

abbrev pub invariant-loop-i : goal.invariant-loop-i
invariant-loop-i l =
    Puts l.initial.out l.out (flat_map field (tabulate l.i (shown l.table.shape.order l.table.cells.now l.row)))
