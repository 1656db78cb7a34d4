use native.Mathlib.Omega.{arith}
use Rattle.tables.proofs.writing.RowLoop.{adding_begin, adding_old, adding_new, adding_end, place_le, room_left}
use Rattle.tables.proofs.writing.put_row.Goals as goal
use Rattle.tables.proofs.writing.put_row.Goals.{else-j-n, then-j-n}

pub loop-s-init : goal.loop-s-init
loop-s-init c =
    adding_begin _ _ _ _ _ _ _ _ _ c.requires.m_le_belief_limit c.told-rows c.put_first.ensures

pub bounds-rows-n : goal.bounds-rows-n
bounds-rows-n c =
    let left = room_left _ _ _ _ _ _ _ _ _ _ _ _ c.loop-s.invariant c.loop-s-test.true _ _ c.next-t.ensures.value c.row_of-j.ensures c.if-j-n.true c.requires.rows_len_bound in
    omega (arith, left, c.loop-s.invariant.long)

pub overflow_cast-j : goal.overflow_cast-j
overflow_cast-j c =
    let place = place_le _ _ _ _ _ _ _ _ _ _ _ _ c.loop-s.invariant c.loop-s-test.true _ _ c.next-t.ensures.value c.row_of-j.ensures in
    omega (arith, place, c.loop-s.invariant.few)

pub loop-s-preserved : goal.loop-s-preserved
loop-s-preserved c =
    elim c.if-j-n.branch [ then-j-n w ↦ adding_new _ _ _ _ _ _ _ _ _ _ _ _ c.loop-s.invariant c.loop-s-test.true _ _ c.next-t.ensures.value c.row_of-j.ensures w.if-j-n.true c.requires.rows_len_bound _ _ _ w.rows-is c.put_pair.ensures w.n-is | else-j-n w ↦ adding_old _ _ _ _ _ _ _ _ _ _ _ _ c.loop-s.invariant c.loop-s-test.true _ _ c.next-t.ensures.value c.row_of-j.ensures w.if-j-n.false _ _ _ w.rows-is c.put_pair.ensures w.n-is ]

pub returns : goal.returns
returns c =
    let whole = adding_end _ _ _ _ _ _ _ _ _ _ _ _ (omega arith) c.loop-s.invariant _ _ c.set_rank.ensures in
    record { value = whole.0; rows_after = whole.1.0; cells_after = whole.1.1 }
