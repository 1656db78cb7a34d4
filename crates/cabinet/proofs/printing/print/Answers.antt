-- `cabinet::printing::print` meets its contract: a table without the sizes of its shape is refused.
-- Assumes nothing.
use lib.ListN.{length}
use borrow.Author.Tests.{le-ltb}
use Rattle.printer.specs.Limits.{text_size}
use Rattle.cabinet.specs.Print.{printed_by, bytes_by}
use Rattle.cabinet.proofs.PrintLaws.{unsized, refused_due}
use Rattle.cabinet.proofs.printing.print.Goals as goal

pub returns-in_default-2 : goal.returns-in_default-2
unfolding printed_by bytes_by
returns-in_default-2 c =
    let room = le-ltb (length c.args.text.now) text_size c.if-text-lt-TEXT_SIZE.false in
    let fails = unsized c.args.table.now c.args.shape c.args.worst (rw c.in_default.is at c.new.ensures) in
    record {
      answer = rw (room, fails);
      bytes = rw (room, fails);
      due = refused_due _ _ _ _ c.if-text-lt-TEXT_SIZE.false fails;
    }
