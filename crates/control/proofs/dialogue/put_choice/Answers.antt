-- `control::dialogue::put_choice` meets its contract: its line has room.
-- Assumes nothing.
use native.Mathlib.Omega.{arith}
use mathlib.Core.Path.{refl}
use borrow.Author.Rules.{rules}
use lib.Dec.{lit<}
use Rattle.basics.specs.Bytes.{bytes_of}
use Rattle.basics.proofs.WriterLaws.{puts_front}
use Rattle.printer.proofs.TextLaws.{words_fit}
use Rattle.control.proofs.dialogue.put_choice.Goals as goal

pub line-requires : goal.line-requires
line-requires c =
    omega (arith, words_fit (bytes_of "choice") c.args.c c.args.left (lit< tt) (omega arith) (omega arith), c.requires)

pub returns-clause-value : goal.returns-clause-value
returns-clause-value c =
    let fits = words_fit (bytes_of "choice") c.args.c c.args.left (lit< tt) (omega arith) (omega arith) in
    (puts_front refl (omega (arith, fits, c.requires)) c.line.ensures).0

pub returns-clause-text_after : goal.returns-clause-text_after
returns-clause-text_after c =
    let fits = words_fit (bytes_of "choice") c.args.c c.args.left (lit< tt) (omega arith) (omega arith) in
    let put = (puts_front refl (omega (arith, fits, c.requires)) c.line.ensures).1 in
    search (rules, put)
