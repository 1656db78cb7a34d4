use Rattle.std.proofs.Common.{◌≡◌, ◌<◌, ◌∙◌, length, take, arith, refl, subst}
use Rattle.std.proofs.lemmas.List.{get_or_default}
use Rattle.formula.specs.Limits.{part_limit}
use Rattle.formula.specs.Parts.{no_part}
use Rattle.formula.proofs.CodesLaws.{Bytes, Held}
use Rattle.records.specs.Judging.{count_taken}
use Rattle.records.proofs.JudgingLaws.{list_more, held_none, held_more, count_room, count_few, judged_list}
use Rattle.records.proofs.JudgedByIffDue.{judged_by_lem}
use Rattle.records.proofs.lending.judge_parts.Goals as goal

pub loop-i-init : goal.loop-i-init
loop-i-init c = (refl, held_none)

pub loop-i-preserved : goal.loop-i-preserved
loop-i-preserved c =
    let ys = c.args.parts.now in
    let few : c.loop-i.i < part_limit = omega (arith, count_few (length ys) c.args.s, c.count_taken-n.ensures) in
    let inside : c.loop-i.i < length ys = omega (arith, count_room (length ys) c.args.s, c.count_taken-n.ensures) in
    let e = get_or_default ys c.loop-i.i _ no_part inside in (
      list_more ys c.loop-i.i few inside _ (c.put.ensures.value ∙ rw (c.loop-i.invariant.0, e)),
      held_more ys c.loop-i.i few inside c.loop-i.invariant.1
          (subst Bytes e (record { left_byte = c.put.ensures.bytes.0; right_byte = c.put.ensures.bytes.1 })),
    )

pub returns : goal.returns
returns c =
    let ys = c.args.parts.now in
    let z = c.args.s in
    let n : c.loop-i.i ≡ count_taken (length ys) z = omega (arith, c.count_taken-n.ensures) in
    let is = c.judge_list.ensures ∙ rw (c.loop-i.invariant.0, n)
    (judged_list ys z c.args.trace.now (subst (λ m. Held (take m ys)) n c.loop-i.invariant.1)) in
    (is, judged_by_lem (length ys) z (take z.parts ys) c.args.trace.now c.judge_list.result is)
