-- `control::dialogue::put_word` meets its contract: the word, the number and the end are its three parts.
-- Assumes nothing.
use native.Mathlib.Omega.{arith}
use mathlib.Core.Path.{refl}
use borrow.Author.Rules.{rules}
use Rattle.basics.proofs.WriterLaws.{puts_then, puts_as, puts_front}
use Rattle.control.proofs.DialogueLaws.{word_parts, word_length, word_fits}
use Rattle.control.proofs.dialogue.put_word.Goals as goal

pub field-requires : goal.field-requires
field-requires c =
    let fits = word_fits c.args.word.now c.requires.word_len_bound c.args.n c.ranges.n.fits in
    let size = word_length c.args.word.now c.args.n in
    omega (arith, fits, size, c.requires.text_size_in_bounds)

pub byte-requires : goal.byte-requires
byte-requires c =
    let fits = word_fits c.args.word.now c.requires.word_len_bound c.args.n c.ranges.n.fits in
    let size = word_length c.args.word.now c.args.n in
    omega (arith, fits, size, c.requires.text_size_in_bounds)

pub returns-clause-value : goal.returns-clause-value
returns-clause-value c =
    let p = puts_as (word_parts c.args.word.now c.args.n) (puts_then c.bytes.ensures (puts_then c.field.ensures c.byte.ensures)) in
    omega (arith, p.at)

pub returns-clause-text_after : goal.returns-clause-text_after
returns-clause-text_after c =
    let fits = word_fits c.args.word.now c.requires.word_len_bound c.args.n c.ranges.n.fits in
    let p = puts_as (word_parts c.args.word.now c.args.n) (puts_then c.bytes.ensures (puts_then c.field.ensures c.byte.ensures)) in
    let put = (puts_front refl (omega (arith, fits, c.requires.text_size_in_bounds)) p).1 in
    let same = p.same in
    search (rules, put, same)
