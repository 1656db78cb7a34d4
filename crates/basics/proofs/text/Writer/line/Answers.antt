use Rattle.basics.proofs.TextLaws.{two_parts}
use Rattle.basics.proofs.WriterLaws.{puts_then, puts_as}
use Rattle.basics.proofs.text.Writer.line.Goals as goal

pub returns : goal.returns
returns c =
    puts_as (two_parts c.args.word.now c.args.a c.args.b)
    (puts_then c.bytes.ensures (puts_then c.field.ensures (puts_then c.field-2.ensures c.byte.ensures)))
