use native.Mathlib.Omega.{arith}
use mathlib.Core.Path.{◌∙◌}
use Rattle.beliefs.proofs.counting.PairLoop.{place_small, kept_none, apart_kept, kept_copy, kept_old, kept_new, kept_over, kept_all}
use Rattle.beliefs.proofs.counting.expand_belief.Goals as goal
use Rattle.beliefs.proofs.counting.expand_belief.Goals.{else-b-q+else-t-eq-BELIEF_LIMIT, else-t-m, then-b-q, then-t-m}

pub loop-q-init : goal.loop-q-init
loop-q-init c =
    kept_none _ _ _ _ _ _ _ _ _ c.args.row.now c.requires.row_len (record {
      listed = c.requires.members;
      small = c.args.automaton.now.few;
      right = c.args.automaton.now.closed;
      same = c.requires.twins;
      room = omega arith;
      different = c.requires.distinct;
    }) c.requires.k_le_belief_limit c.requires.holds_beliefs

pub put_belief-t-requires-clause-apart : goal.put_belief-t-requires-clause-apart
put_belief-t-requires-clause-apart c =
    apart_kept _ _ _ _ _ _ _ _ _ _ _ c.loop-q.mem c.loop-q.row c.loop-q.invariant c.loop-q-test.true

pub returns-then-t-eq-BELIEF_LIMIT : goal.returns-then-t-eq-BELIEF_LIMIT
returns-then-t-eq-BELIEF_LIMIT c =
    let whole = kept_over _ _ _ _ _ _ _ _ _ _ _ c.loop-q.mem c.loop-q.row c.loop-q.invariant c.loop-q-test.true _ _ c.put_belief-t.ensures.mem_after
    c.put_belief-t.ensures.value c.if-t-eq-BELIEF_LIMIT.true _ _ _ c.requires.row_len in
    record { value = whole.0; tried = whole.1 }

pub overflow_cast-row : goal.overflow_cast-row
overflow_cast-row c =
    omega (arith, place_small _ _ c.put_belief-t.result c.put_belief-t.ensures.value c.loop-q.invariant.0.1 c.if-t-eq-BELIEF_LIMIT.false)

pub loop-q-preserved : goal.loop-q-preserved
loop-q-preserved c =
    elim c.if-b-q.branch [
      | then-b-q w ↦ kept_copy _ _ _ _ _ _ _ _ _ _ _ c.loop-q.mem c.loop-q.row c.loop-q.invariant c.loop-q-test.true w.if-b-q.true _ _ _
          w.mem-is w.row-is w.m-is
      | else-b-q+else-t-eq-BELIEF_LIMIT w ↦ elim w.if-t-m.branch [
        | then-t-m v ↦ kept_new _ _ _ _ _ _ _ _ _ _ _ c.loop-q.mem c.loop-q.row c.loop-q.invariant c.loop-q-test.true _ _
            w.put_belief-t.ensures.mem_after w.put_belief-t.ensures.value v.if-t-m.true w.if-t-eq-BELIEF_LIMIT.false _ _ _
            w.mem-is w.row-is (w.m-is ∙ v.m-is)
        | else-t-m v ↦ kept_old _ _ _ _ _ _ _ _ _ _ _ c.loop-q.mem c.loop-q.row c.loop-q.invariant c.loop-q-test.true _ _
            w.put_belief-t.ensures.mem_after w.put_belief-t.ensures.value v.if-t-m.false _ _ _ w.mem-is w.row-is (w.m-is ∙ v.m-is)
      ]
    ]

pub returns : goal.returns
returns c =
    let whole = kept_all _ _ _ _ _ _ _ _ _ _ _ c.loop-q.mem c.loop-q.row c.loop-q.invariant c.loop-q-test.false _ c.requires.row_len in
    record { value = whole.0; tried = whole.1 }
