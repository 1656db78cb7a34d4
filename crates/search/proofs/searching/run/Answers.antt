use Prim.Native.Nat.{◌+◌, ◌-◌, ◌*◌}
use native.Mathlib.Omega.{arith}
use mathlib.Core.Path.{refl, sym, ap, ◌∙◌}
use lib.Seq.{length_front, length-take-le}
use borrow.Rule.Slice.PartMut.{same_len_mid}
use Rattle.search.specs.Limits.{state_limit, letter_limit, set_size}
use Rattle.basics.specs.Lists.{below}
use Rattle.search.specs.PatternSet.{start}
use Rattle.search.specs.Memory.{packed}
use Rattle.basics.proofs.ListsLaws.{zeros_length}
use Rattle.search.proofs.PatternSetLaws.{length_start}
use Rattle.search.proofs.ReachableSetsLaws.{sets_reachable}
use Rattle.search.proofs.LimitsLaws.{set_packing}
use Rattle.search.proofs.SearchTurns.{turn_begin, turn_many, turn_whole, turn_answer, turn_left, turn_row}
use Rattle.search.proofs.searching.run.Goals as goal

pub loop-i-init : goal.loop-i-init
loop-i-init c =
    let bytes = c.put_start.ensures ∙ ap (λ n. packed n (start c.args.letters.now.operators)) (length-take-le set_size c.args.mem.now (omega (arith, c.requires.mem_len))) in (
      length_front c.args.mem.now c.put_start.new.place set_size c.put_start.auto.place ∙ c.requires.mem_len,
      zeros_length _ (state_limit * letter_limit) c.requires.successors_value,
      turn_begin (set_packing c.args.letters.now.operators c.args.letters.now.operators_few) (length_start c.args.letters.now.operators) (omega arith) (sets_reachable c.args.letters.now.operators _ (below c.args.letters.now.count) state_limit)
          set_size c.args.mem.now c.put_start.new.place c.args.successors.now bytes refl (omega (arith, c.requires.mem_len)) (state_limit * letter_limit) c.requires.successors_value,
    )

pub returns-in_err-n : goal.returns-in_err-n
returns-in_err-n c =
    let whole = turn_many c.loop-i.invariant.2 c.loop-i-test.true _ refl _ _ (sym c.in_err-n.was ∙ c.expand.ensures.value) in
    record { value = c.from_residual.ensures ∙ whole.0; ran = whole.1 }

pub loop-i-preserved : goal.loop-i-preserved
loop-i-preserved c =
    let row = turn_row c.loop-i.invariant.2 c.loop-i-test.true c.args.letters.now.count c.args.letters.now.count_few c.loop-i.invariant.1 in
    let at = c.loop-i.i * letter_limit in (
      c.expand.auto.mem ∙ c.loop-i.invariant.0,
      same_len_mid at (at + c.args.letters.now.count - at) c.loop-i.successors c.expand.new.row c.expand.auto.row ∙ c.loop-i.invariant.1,
      turn_whole c.loop-i.invariant.2 c.loop-i-test.true _ refl _ at (at + c.args.letters.now.count - at) _ c.expand.new.row (λ x. c.args.letters.now.count_few) (omega arith) refl (omega (arith, row.0))
          (sym c.in_ok-n.was ∙ c.expand.ensures.value) c.expand.ensures.expanded,
    )

pub returns : goal.returns
returns c =
    record {
      value = turn_answer c.loop-i.invariant.2 c.loop-i-test.false;
      ran = turn_left c.loop-i.invariant.2 c.loop-i-test.false (set_packing c.args.letters.now.operators c.args.letters.now.operators_few) (omega arith) (λ x. c.args.letters.now.count_few)
          (omega (arith, c.loop-i.invariant.2.few, c.loop-i.invariant.0)) (omega (arith, c.loop-i.invariant.2.few, c.loop-i.invariant.1));
    }
