-- `printer::writing::put_refusal` meets its contract: its line has room.
-- Assumes nothing.
use native.Mathlib.Omega.{arith}
use mathlib.Core.Path.{refl, sym, ap, ap₂}
use mathlib.Core.List.{[], ◌∷◌}
use borrow.Author.Rules.{rules}
use lib.ListN.{length}
use Rattle.basics.specs.Bytes.{bytes_of}
use Rattle.basics.specs.Text.{decimal, line}
use Rattle.basics.proofs.WriterLaws.{puts_as, puts_front}
use Rattle.printer.proofs.TextLaws.{words_fit}
use Rattle.printer.proofs.writing.put_refusal.Goals as goal

pub line-requires : goal.line-requires
line-requires c =
    omega (
      arith,
      words_fit (bytes_of "refused") c.number.result c.place.result (omega arith) c.number.type_inv c.place.type_inv,
      c.requires,
    )

pub returns-clause-value : goal.returns-clause-value
returns-clause-value c =
    let fits = words_fit (bytes_of "refused") c.number.result c.place.result (omega arith) c.number.type_inv c.place.type_inv in
    rw (← c.number.ensures, ← c.place.ensures) ((puts_front refl (omega (arith, fits, c.requires)) c.line.ensures).0)

pub returns-clause-text_after : goal.returns-clause-text_after
returns-clause-text_after c =
    let same = ap₂ (λ a b. line (bytes_of "refused") (decimal a ∷ decimal b ∷ [])) c.number.ensures c.place.ensures in
    let fits = words_fit (bytes_of "refused") c.number.result c.place.result (omega arith) c.number.type_inv c.place.type_inv in
    let put = (puts_front refl (omega (arith, fits, ap length same, c.requires)) (puts_as (sym same) c.line.ensures)).1 in
    search (rules, put)
