use lib.Dec.{eqb}
use mathlib.Core.Path.{refl, sym, ◌∙◌}
use borrow.Author.Tests.{eq-eqb}
use native.Mathlib.Omega.{arith}
use Rattle.std.proofs.Common.{ℕ, ◌-◌, ◌*◌}
use Rattle.syntax.specs.Kinds.{open_kind}
use Rattle.syntax.proofs.LexLaws.{tok_high, tok_ordered, tok_real}
use Rattle.grammar.specs.Grammar.{is_op, is_pre, leftward}
use Rattle.grammar.specs.Names.{names_in, leaf_value}
use Rattle.grammar.proofs.PlanParseLaws.{formulas_laws}
use Rattle.grammar.proofs.AnswerLaws.{got, got_none, room_at, span, Joined, joined, Growing}
use Rattle.grammar.proofs.AnswerLaws.{level_is, right_most, begin, first_bad, stopped, next_bad, next_more, next_done}
use Rattle.grammar.proofs.AnswerLaws.{pass, pre_bad, pre_done, leaf_done, other_done, group_bad, close_bad, close_done}
use Rattle.grammar.proofs.PlanAnswers.{no_plan, has_plan, no_head, headed, first_none, no_second, second_place, second_none, end_none}
use Rattle.grammar.proofs.PlanAnswers.{operand_few, operand_length, plan_room, plan_done}
use Rattle.grammar.proofs.phrase.+read_atom_read_level_read_plan_read_unary.Goals.{read_level-After-is_op, read_level-In_ok-operand}
use Rattle.grammar.proofs.phrase.+read_atom_read_level_read_plan_read_unary.Goals as goal

pub read_atom-leaf_value-requires : goal.read_atom-leaf_value-requires
read_atom-leaf_value-requires t c =
    let high = tok_high _ _ c.requires.room.inside _ c.token_at-t.ensures in
    (tok_ordered _ _ c.requires.room.inside _ c.token_at-t.ensures, high)

pub read_atom-returns-then-is_leaf : goal.read_atom-returns-then-is_leaf
read_atom-returns-then-is_leaf t c =
    let L = formulas_laws c.args.temporal in
    let o = sym c.is_leaf.ensures ∙ c.if-is_leaf.true in
    leaf_done L _ _ c.requires.room.inside _ c.token_at-t.ensures o c.leaf_value.ensures c.put_leaf.ensures

pub read_atom-returns-then-not-temporal : goal.read_atom-returns-then-not-temporal
read_atom-returns-then-not-temporal t c =
    let L = formulas_laws c.args.temporal in
    let o = sym c.is_leaf.ensures ∙ c.if-is_leaf.false in
    other_done L _ _ c.requires.room.inside _ c.token_at-t.ensures o c.if-t-ne-OPEN.true
    (no_plan c.args.text.now c.args.at c.args.temporal (c.if-not-temporal.true))

pub read_atom-returns-then-t-ne-OPEN : goal.read_atom-returns-then-t-ne-OPEN
read_atom-returns-then-t-ne-OPEN t c =
    let L = formulas_laws c.args.temporal in
    let o = sym c.is_leaf.ensures ∙ c.if-is_leaf.false in
    other_done L _ _ c.requires.room.inside _ c.token_at-t.ensures o c.if-t-ne-OPEN.true
    (has_plan c.args.text.now c.args.at c.args.temporal (c.if-not-temporal.false)
    c.read_plan.ensures)

pub read_atom-read_level-requires : goal.read_atom-read_level-requires
read_atom-read_level-requires t c =
    let u = tok_high _ _ c.requires.room.inside _ c.token_at-t.ensures in
    let v = tok_real _ _ c.requires.room.inside _ c.token_at-t.ensures (λ k. eqb k open_kind) refl (eq-eqb _ _ c.if-t-ne-OPEN.false) in
    (omega (arith, u, v), (room_at c.requires.room u (omega (arith, c.requires.room.behind, v)), omega arith))

pub read_atom-returns-in_err-inner : goal.read_atom-returns-in_err-inner
read_atom-returns-in_err-inner t c =
    let L = formulas_laws c.args.temporal in
    let o = sym c.is_leaf.ensures ∙ c.if-is_leaf.false in
    let none_in = got_none _ c.read_level.ensures c.in_err-inner.was in
    rw c.from_residual.ensures (group_bad L _ _ c.requires.room.inside _ c.token_at-t.ensures o c.if-t-ne-OPEN.false none_in)

pub read_atom-returns-then-close-ne-CLOSE : goal.read_atom-returns-then-close-ne-CLOSE
read_atom-returns-then-close-ne-CLOSE t c =
    let L = formulas_laws c.args.temporal in
    let o = sym c.is_leaf.ensures ∙ c.if-is_leaf.false in
    let inner = got _ c.read_level.ensures c.in_ok-inner.was in
    close_bad L _ _ c.requires.room.inside _ c.token_at-t.ensures o c.if-t-ne-OPEN.false inner
    _ c.token_at-close.ensures c.if-close-ne-CLOSE.true

pub read_atom-returns : goal.read_atom-returns
read_atom-returns t c =
    let L = formulas_laws c.args.temporal in
    let o = sym c.is_leaf.ensures ∙ c.if-is_leaf.false in
    let inner = got _ c.read_level.ensures c.in_ok-inner.was in
    close_done L _ _ c.requires.room.inside _ c.token_at-t.ensures o c.if-t-ne-OPEN.false inner
    _ c.token_at-close.ensures c.if-close-ne-CLOSE.false

-- what the loop has read so far
so_far : {t : ℕ} (c : read_level-After-is_op t)
    → Growing (formulas_laws c.args.temporal) c.args.text.now (leaf_value (names_in c.args.names.now) c.args.text.now)
    c.args.l (c.args.l - 1) c.args.at c.args.n c.args.cells.now c.loop-op.read c.loop-op.cells
so_far c =
    let lv = level_is _ c.if-l-eq0.false in
    let first = got _ c.read_level.ensures c.in_ok-read.was in
    c.loop-op.invariant.grows _
    (begin (formulas_laws c.args.temporal) _ _ _ _ lv c.requires.l_bound c.requires.room.inside first)

-- the operator and its right operand
with_operand : {t : ℕ} (c : read_level-In_ok-operand t)
    → Joined (λ x. 8 * x) c.args.text.now c.loop-op.read.next c.loop-op.read.count c.in_ok-operand.operand.next c.in_ok-operand.operand.count
with_operand c =
    let L = formulas_laws c.args.temporal in
    let o = sym c.is_op.ensures ∙ c.if-not-is_op.false in
    let b = got _ c.read_level-in-loop-op.ensures c.in_ok-operand.was in
    joined L _ _ c.loop-op.invariant.high _ c.token_at-op.ensures (is_op c.args.temporal c.args.l) (L.op_end _) o _
    c.loop-op.invariant.behind b

pub read_level-returns-in_err-read : goal.read_level-returns-in_err-read
read_level-returns-in_err-read t c =
    let L = formulas_laws c.args.temporal in
    let lv = level_is _ c.if-l-eq0.false in
    rw c.from_residual.ensures (first_bad L _ _ _ _ lv c.requires.l_bound c.requires.room.inside (got_none _ c.read_level.ensures c.in_err-read.was))

pub read_level-loop-op-init : goal.read_level-loop-op-init
read_level-loop-op-init t c =
    let L = formulas_laws c.args.temporal in
    let s = span L _ _ _ c.requires.room.inside (got _ c.read_level.ensures c.in_ok-read.was) in
    record {
      onward = omega (arith, s);
      behind = omega (arith, s.wide, c.requires.room.behind);
      high = s.high;
      long = refl;
      grows = λ p g. g;
    }

pub read_level-returns-then-not-is_op : goal.read_level-returns-then-not-is_op
read_level-returns-then-not-is_op t c =
    let L = formulas_laws c.args.temporal in
    let lv = level_is _ c.if-l-eq0.false in
    let g = so_far (goal.at.read_level-returns-then-not-is_op t c).After-is_op in
    let o = sym c.is_op.ensures ∙ c.if-not-is_op.true in
    stopped L _ _ _ _ lv c.requires.l_bound c.requires.room.inside g _ c.token_at-op.ensures o

pub read_level-read_level-requires-in-loop-op : goal.read_level-read_level-requires-in-loop-op
read_level-read_level-requires-in-loop-op t c =
    let L = formulas_laws c.args.temporal in
    let o = sym c.is_op.ensures ∙ c.if-not-is_op.false in
    let u = tok_high _ _ c.loop-op.invariant.high _ c.token_at-op.ensures in
    let v = tok_real _ _ c.loop-op.invariant.high _ c.token_at-op.ensures (is_op c.args.temporal c.args.l) (L.op_end _) o in
    let z = right_most (leftward c.args.l) _ _ c.right_level-right.ensures in (
      omega (arith, c.loop-op.invariant.onward, u, v, z),
      (room_at c.requires.room u (omega (arith, c.loop-op.invariant.behind, v)), omega (arith, c.requires.l_bound, z)),
    )

pub read_level-returns-in_err-operand : goal.read_level-returns-in_err-operand
read_level-returns-in_err-operand t c =
    let L = formulas_laws c.args.temporal in
    let lv = level_is _ c.if-l-eq0.false in
    let g = so_far (goal.at.read_level-returns-in_err-operand t c).After-is_op in
    let o = sym c.is_op.ensures ∙ c.if-not-is_op.false in
    let none_right = got_none _ c.read_level-in-loop-op.ensures c.in_err-operand.was in
    rw c.from_residual-in_err-operand.ensures
    (next_bad L _ _ _ _ lv c.requires.l_bound c.requires.room.inside g _ c.token_at-op.ensures o _ c.right_level-right.ensures none_right)

pub read_level-overflow_add-read : goal.read_level-overflow_add-read
read_level-overflow_add-read t c =
    let j = with_operand (goal.at.read_level-overflow_add-read t c).In_ok-operand in
    omega (arith, c.requires.room.short, j)

pub read_level-returns-then-right-l : goal.read_level-returns-then-right-l
read_level-returns-then-right-l t c =
    let L = formulas_laws c.args.temporal in
    let lv = level_is _ c.if-l-eq0.false in
    let g = so_far (goal.at.read_level-returns-then-right-l t c).After-is_op in
    let o = sym c.is_op.ensures ∙ c.if-not-is_op.false in
    let b = got _ c.read_level-in-loop-op.ensures c.in_ok-operand.was in
    next_done L _ _ _ _ lv c.requires.l_bound c.requires.room.inside g _ c.token_at-op.ensures o _ c.right_level-right.ensures b
    c.put_two.ensures c.if-right-l.true

pub read_level-loop-op-smaller : goal.read_level-loop-op-smaller
read_level-loop-op-smaller t c =
    let j = with_operand (goal.at.read_level-loop-op-smaller t c).In_ok-operand in
    omega (arith, j.onward, j.high)

pub read_level-loop-op-preserved : goal.read_level-loop-op-preserved
read_level-loop-op-preserved t c =
    let L = formulas_laws c.args.temporal in
    let o = sym c.is_op.ensures ∙ c.if-not-is_op.false in
    let j = with_operand (goal.at.read_level-loop-op-preserved t c).In_ok-operand in
    let lv = level_is _ c.if-l-eq0.false in
    record {
      onward = omega (arith, c.loop-op.invariant.onward, j.onward);
      behind = j.behind;
      high = j.high;
      long = c.put_two.auto.cells ∙ c.read_level-in-loop-op.auto.cells ∙ c.loop-op.invariant.long;
      grows = λ p g. next_more L _ _ _ _ lv c.requires.l_bound c.requires.room.inside (c.loop-op.invariant.grows p g) _
          c.token_at-op.ensures o _ c.right_level-right.ensures (got _ c.read_level-in-loop-op.ensures c.in_ok-operand.was)
          c.put_two.ensures c.if-right-l.false;
    }

pub read_plan-returns-in_err-head : goal.read_plan-returns-in_err-head
read_plan-returns-in_err-head t c =
    rw c.from_residual.ensures (no_head _ _ c.requires.room.inside (sym c.head_at.ensures ∙ c.in_err-head.was))

pub read_plan-read_level-requires : goal.read_plan-read_level-requires
read_plan-read_level-requires t c =
    let hd = sym c.head_at.ensures ∙ c.in_ok-head.was in
    let d = headed _ _ c.requires.room.inside hd in (
      omega (arith, d.later, d.high),
      (room_at c.requires.room d.high (omega arith), omega arith),
    )

pub read_plan-returns-in_err-first : goal.read_plan-returns-in_err-first
read_plan-returns-in_err-first t c =
    let hd = sym c.head_at.ensures ∙ c.in_ok-head.was in
    rw c.from_residual-in_err-first.ensures (first_none _ _ c.requires.room.inside hd (got_none _ c.read_level.ensures c.in_err-first.was))

pub read_plan-returns-in_err-place : goal.read_plan-returns-in_err-place
read_plan-returns-in_err-place t c =
    let hd = sym c.head_at.ensures ∙ c.in_ok-head.was in
    let g = got _ c.read_level.ensures c.in_ok-first.was in
    rw c.from_residual-in_err-place.ensures (no_second _ _ c.requires.room.inside hd g (sym c.second_at.ensures ∙ c.in_err-place.was))

pub read_plan-read_level-requires-2 : goal.read_plan-read_level-requires-2
read_plan-read_level-requires-2 t c =
    let hd = sym c.head_at.ensures ∙ c.in_ok-head.was in
    let g = got _ c.read_level.ensures c.in_ok-first.was in
    let z = sym c.second_at.ensures ∙ c.in_ok-place.was in
    let d = headed _ _ c.requires.room.inside hd in
    let p = second_place _ _ c.requires.room.inside hd g z in (
      omega (arith, d.later, p.0, p.1),
      (room_at c.requires.room p.1 (omega arith), omega arith),
    )

pub read_plan-returns-in_err-second : goal.read_plan-returns-in_err-second
read_plan-returns-in_err-second t c =
    let hd = sym c.head_at.ensures ∙ c.in_ok-head.was in
    let g = got _ c.read_level.ensures c.in_ok-first.was in
    let z = sym c.second_at.ensures ∙ c.in_ok-place.was in
    rw c.from_residual-in_err-second.ensures (second_none _ _ c.requires.room.inside hd g z (got_none _ c.read_level-2.ensures c.in_err-second.was))

pub read_plan-returns-then-close-ne-CLOSE : goal.read_plan-returns-then-close-ne-CLOSE
read_plan-returns-then-close-ne-CLOSE t c =
    let hd = sym c.head_at.ensures ∙ c.in_ok-head.was in
    let g = got _ c.read_level.ensures c.in_ok-first.was in
    let z = sym c.second_at.ensures ∙ c.in_ok-place.was in
    let i = got _ c.read_level-2.ensures c.in_ok-second.was in
    end_none _ _ c.requires.room.inside hd g z i _ c.token_at-close.ensures c.if-close-ne-CLOSE.true

pub read_plan-slice_bounds-a-end : goal.read_plan-slice_bounds-a-end
read_plan-slice_bounds-a-end t c =
    let hd = sym c.head_at.ensures ∙ c.in_ok-head.was in
    let g = got _ c.read_level.ensures c.in_ok-first.was in
    let d = headed _ _ c.requires.room.inside hd in
    omega (arith, operand_few _ c.requires.room.short _ d.high g, c.read_level.auto.cells)

pub read_plan-slice_bounds-put_plan-end : goal.read_plan-slice_bounds-put_plan-end
read_plan-slice_bounds-put_plan-end t c =
    let hd = sym c.head_at.ensures ∙ c.in_ok-head.was in
    let g = got _ c.read_level.ensures c.in_ok-first.was in
    let d = headed _ _ c.requires.room.inside hd in
    sym (operand_length _ c.requires.room.short _ d.high g refl)

pub read_plan-slice_bounds-b-end : goal.read_plan-slice_bounds-b-end
read_plan-slice_bounds-b-end t c =
    let hd = sym c.head_at.ensures ∙ c.in_ok-head.was in
    let g = got _ c.read_level.ensures c.in_ok-first.was in
    let z = sym c.second_at.ensures ∙ c.in_ok-place.was in
    let i = got _ c.read_level-2.ensures c.in_ok-second.was in
    let p = second_place _ _ c.requires.room.inside hd g z in
    omega (arith, operand_few _ c.requires.room.short _ p.1 i, c.read_level-2.auto.cells)

pub read_plan-slice_bounds-put_plan-end-2 : goal.read_plan-slice_bounds-put_plan-end-2
read_plan-slice_bounds-put_plan-end-2 t c =
    let hd = sym c.head_at.ensures ∙ c.in_ok-head.was in
    let g = got _ c.read_level.ensures c.in_ok-first.was in
    let z = sym c.second_at.ensures ∙ c.in_ok-place.was in
    let i = got _ c.read_level-2.ensures c.in_ok-second.was in
    let p = second_place _ _ c.requires.room.inside hd g z in
    sym (operand_length _ c.requires.room.short _ p.1 i refl)

pub read_plan-put_plan-requires : goal.read_plan-put_plan-requires
read_plan-put_plan-requires t c =
    let hd = sym c.head_at.ensures ∙ c.in_ok-head.was in
    let g = got _ c.read_level.ensures c.in_ok-first.was in
    let z = sym c.second_at.ensures ∙ c.in_ok-place.was in
    let i = got _ c.read_level-2.ensures c.in_ok-second.was in
    let d = headed _ _ c.requires.room.inside hd in
    let few = plan_room _ _ c.requires.room.inside hd g z i _ c.token_at-close.ensures c.requires.room.short refl refl
    c.requires.room.behind in
    record { in_range = d.numbered; b_bound = few }

pub read_plan-returns : goal.read_plan-returns
read_plan-returns t c =
    let hd = sym c.head_at.ensures ∙ c.in_ok-head.was in
    let g = got _ c.read_level.ensures c.in_ok-first.was in
    let z = sym c.second_at.ensures ∙ c.in_ok-place.was in
    let i = got _ c.read_level-2.ensures c.in_ok-second.was in
    plan_done _ _ c.requires.room.inside hd g z i _ c.token_at-close.ensures c.requires.room.short refl refl
    c.if-close-ne-CLOSE.false c.put_plan.ensures.value c.put_plan.ensures.cells_after

pub read_unary-returns-then-not-is_prefix : goal.read_unary-returns-then-not-is_prefix
read_unary-returns-then-not-is_prefix t c =
    let L = formulas_laws c.args.temporal in
    pass L _ _ c.requires.room.inside _ c.token_at-t.ensures (sym c.is_prefix.ensures ∙ c.if-not-is_prefix.true) c.read_atom.ensures

pub read_unary-read_unary-requires : goal.read_unary-read_unary-requires
read_unary-read_unary-requires t c =
    let L = formulas_laws c.args.temporal in
    let o = sym c.is_prefix.ensures ∙ c.if-not-is_prefix.false in
    let u = tok_high _ _ c.requires.room.inside _ c.token_at-t.ensures in
    let v = tok_real _ _ c.requires.room.inside _ c.token_at-t.ensures (is_pre c.args.temporal) L.pre_end o in
    (omega (arith, u, v), room_at c.requires.room u (omega (arith, c.requires.room.behind, v)))

pub read_unary-returns-in_err-operand : goal.read_unary-returns-in_err-operand
read_unary-returns-in_err-operand t c =
    let L = formulas_laws c.args.temporal in
    let o = sym c.is_prefix.ensures ∙ c.if-not-is_prefix.false in
    rw c.from_residual.ensures (pre_bad L _ _ c.requires.room.inside _ c.token_at-t.ensures o (got_none _ c.read_unary.ensures c.in_err-operand.was))

pub read_unary-overflow_add-result : goal.read_unary-overflow_add-result
read_unary-overflow_add-result t c =
    let L = formulas_laws c.args.temporal in
    let o = sym c.is_prefix.ensures ∙ c.if-not-is_prefix.false in
    let b = got _ c.read_unary.ensures c.in_ok-operand.was in
    let j = joined L _ _ c.requires.room.inside _ c.token_at-t.ensures (is_pre c.args.temporal) L.pre_end o _ c.requires.room.behind b in
    omega (arith, j)

pub read_unary-returns : goal.read_unary-returns
read_unary-returns t c =
    let L = formulas_laws c.args.temporal in
    let o = sym c.is_prefix.ensures ∙ c.if-not-is_prefix.false in
    pre_done L _ _ c.requires.room.inside _ c.token_at-t.ensures o (got _ c.read_unary.ensures c.in_ok-operand.was) c.put.ensures
