use Rattle.std.proofs.Common.{◌≡◌, ◌<◌, ◌∙◌, length, arith, ap, List, set}
use Rattle.formula.specs.declared.parts.Part.{Part}
use Rattle.formula.specs.Parts.{part_at}
use Rattle.records.specs.Reading.{read_into, parts_given}
use Rattle.records.proofs.ReadingLaws.{given_few, given_room, listed_part, up_to, up_to_more, up_to_all}
use Rattle.records.proofs.ListedIffDue.{listed_as}
use Rattle.records.proofs.lending.read_parts.Goals as goal

pub bounds-l-i : goal.bounds-l-i
bounds-l-i c =
    omega (arith, given_few (length c.args.parts.now) c.args.source.now, ap (λ l. l.count) c.list_parts-l.ensures)

pub bounds-parts-i : goal.bounds-parts-i
bounds-parts-i c =
    omega (arith, given_room (length c.args.parts.now) c.args.source.now, ap (λ l. l.count) c.list_parts-l.ensures)

pub loop-i-preserved : goal.loop-i-preserved
loop-i-preserved c =
    let room = length c.args.parts.now in
    let ps = parts_given (read_into room c.args.source.now) in
    let n = ap (λ l. l.count) c.list_parts-l.ensures in
    let h : c.loop-i.i < length ps = omega (arith, n) in
    let p : c.part_of.result ≡ part_at ps c.loop-i.i = c.part_of.ensures ∙ rw c.list_parts-l.ensures (listed_part room c.args.source.now c.loop-i.i h) in
    ap (λ (us : List Part). set us c.loop-i.i c.part_of.result) c.loop-i.invariant
    ∙ up_to_more ps c.args.parts.now (given_room room c.args.source.now) c.loop-i.i c.part_of.result h p

pub returns : goal.returns
returns c =
    let room = length c.args.parts.now in
    let ps = parts_given (read_into room c.args.source.now) in
    let n = ap (λ l. l.count) c.list_parts-l.ensures in
    let i : c.loop-i.i ≡ length ps = omega (arith, n) in
    let is = ap (λ l. l.reading) c.list_parts-l.ensures in
    let all = c.loop-i.invariant ∙ ap (λ m. up_to m ps c.args.parts.now) i ∙ up_to_all ps c.args.parts.now (given_room room c.args.source.now) in
    (is, all, listed_as c.args.source.now c.args.parts.now c.list_parts-l.result.reading c.loop-i.parts is all)
