use native.Mathlib.Omega.{arith}
use mathlib.Core.Path.{◌∙◌}
use Rattle.search.proofs.StepsFromItem.{adding_all}
use Rattle.search.proofs.searching.ExpandLoop.{place_small, kept_none, kept_copy, kept_old, kept_new, kept_over}
use Rattle.search.proofs.searching.expand.Goals as goal
use Rattle.search.proofs.searching.expand.Goals.{then-b-a, else-b-a, then-t-m+else-m-eq-STATE_LIMIT, else-t-m}

pub loop-a-init : goal.loop-a-init
loop-a-init c =
    kept_none _ _ _ _ _ _ c.requires.row_len c.requires.i_lt_n c.requires.n_le_state_limit c.requires.mem_len c.requires.holds c.put_spread.ensures

pub returns-then-m-eq-STATE_LIMIT : goal.returns-then-m-eq-STATE_LIMIT
returns-then-m-eq-STATE_LIMIT c =
    let whole = kept_over _ _ _ _ _ _ _ c.loop-a.mem c.loop-a.row c.loop-a.invariant c.loop-a-test.true c.if-b-a.false _ _
    c.put_set-t.ensures.mem_after c.put_set-t.ensures.value c.if-t-m.true c.if-m-eq-STATE_LIMIT.true _ _ in
    record { value = whole.0; expanded = whole.1 }

pub overflow_cast-row : goal.overflow_cast-row
overflow_cast-row c =
    omega (arith, place_small _ _ _ c.put_set-t.ensures.value c.loop-a.invariant.0.1)

pub loop-a-preserved : goal.loop-a-preserved
loop-a-preserved c =
    elim c.if-b-a.branch [
      | then-b-a w ↦ kept_copy _ _ _ _ _ _ _ c.loop-a.mem c.loop-a.row c.loop-a.invariant c.loop-a-test.true w.if-b-a.true _ _ _
          w.mem-is w.row-is w.m-is
      | else-b-a w ↦ elim w.if-t-m.branch [
        | then-t-m+else-m-eq-STATE_LIMIT v ↦ kept_new _ _ _ _ _ _ _ c.loop-a.mem c.loop-a.row c.loop-a.invariant c.loop-a-test.true
            w.if-b-a.false _ _ w.put_set-t.ensures.mem_after w.put_set-t.ensures.value v.if-t-m.true v.if-m-eq-STATE_LIMIT.false _ _ _
            w.mem-is w.row-is (w.m-is ∙ v.m-is)
        | else-t-m v ↦ kept_old _ _ _ _ _ _ _ c.loop-a.mem c.loop-a.row c.loop-a.invariant c.loop-a-test.true w.if-b-a.false _ _
            w.put_set-t.ensures.mem_after w.put_set-t.ensures.value v.if-t-m.false _ _ _ w.mem-is w.row-is (w.m-is ∙ v.m-is)
      ]
    ]

pub returns : goal.returns
returns c =
    let whole = adding_all _ _ _ _ _ _ c.loop-a.invariant.0 (omega (arith, c.loop-a.invariant.0.3, c.loop-a-test.false)) in
    record { value = whole.0; expanded = whole.1 }
