-- `printer::writing::put_table` meets its contract: a line, and the rows behind it.
-- Assumes nothing.
use native.Mathlib.Omega.{arith}
use mathlib.Core.Path.{refl}
use mathlib.Core.List.{[], ◌∷◌}
use borrow.Author.Rules.{rules}
use lib.ListN.{length-append}
use Rattle.basics.specs.Text.{decimal, line}
use Rattle.basics.proofs.WriterLaws.{puts_then, puts_front}
use Rattle.printer.specs.Text.{rows_text, table_word}
use Rattle.printer.proofs.writing.put_table.Goals as goal

pub put_rows-requires : goal.put_rows-requires
put_rows-requires c =
    let t = c.args.table.now in
    let head = line (table_word t.shape.order) (decimal t.shape.rows ∷ decimal c.args.worst ∷ []) in
    let l = length-append head (rows_text t.cells.now t.shape t.shape.rows) in
    omega (arith, l)

pub returns-clause-value : goal.returns-clause-value
returns-clause-value c = (puts_front refl c.requires (puts_then c.put_head.ensures c.put_rows.ensures)).0

pub returns-clause-text_after : goal.returns-clause-text_after
returns-clause-text_after c =
    let p = puts_then c.put_head.ensures c.put_rows.ensures in
    let put = (puts_front refl c.requires p).1 in
    let same = p.same in
    search (rules, put, same)
