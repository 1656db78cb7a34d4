use Prim.Native.Nat.{◌+◌, ◌-◌, ◌*◌}
use native.Mathlib.Omega.{arith}
use mathlib.Core.Path.{◌≡◌, refl, ap, ◌∙◌}
use Rattle.play.specs.Cells.{row_size}
use Rattle.tables.proofs.writing.TableLoop.{turn_begin, row_lt_count, turn_stop, row_asked, turn_choice, turn_answer}
use Rattle.tables.proofs.writing.put_table.Goals as goal
use Rattle.tables.proofs.writing.put_table.Goals.{else-arena-k-eq1, then-arena-k-eq1}

pub loop-i-init : goal.loop-i-init
loop-i-init c =
    turn_begin _ _ _ _ _ _ c.args.arena.now.positions c.requires.start_ranked _

pub put_answers-requires : goal.put_answers-requires
put_answers-requires c =
    row_lt_count _ _ _ _ _ _ c.args.arena.now.positions c.requires.start_ranked _ _ _ _ _ c.loop-i.invariant c.loop-i-test.true _ refl

pub put_row-m-requires-clause-k_lt_count : goal.put_row-m-requires-clause-k_lt_count
put_row-m-requires-clause-k_lt_count c =
    row_lt_count _ _ _ _ _ _ c.args.arena.now.positions c.requires.start_ranked _ _ _ _ _ c.loop-i.invariant c.loop-i-test.true _ refl

pub put_row-m-requires-clause-choices : goal.put_row-m-requires-clause-choices
put_row-m-requires-clause-choices c =
    (row_asked _ _ _ _ _ _ c.args.arena.now.positions c.requires.start_ranked _ _ _ _ _ c.loop-i.invariant c.loop-i-test.true _ refl
    _ c.requires.ranks_value c.if-arena-k-eq1.false _ _ c.put_answers.ensures).0

pub put_row-m-requires-clause-rows_len_bound : goal.put_row-m-requires-clause-rows_len_bound
put_row-m-requires-clause-rows_len_bound c =
    (row_asked _ _ _ _ _ _ c.args.arena.now.positions c.requires.start_ranked _ _ _ _ _ c.loop-i.invariant c.loop-i-test.true _ refl
    _ c.requires.ranks_value c.if-arena-k-eq1.false _ _ c.put_answers.ensures).1

pub loop-i-preserved : goal.loop-i-preserved
loop-i-preserved c =
    let e : c.row_size-size.result ≡ row_size c.args.order = c.row_size-size.ensures in
    let same : c.loop-i.i * c.row_size-size.result + c.row_size-size.result - c.loop-i.i * c.row_size-size.result ≡ c.row_size-size.result = omega arith in
    let at = ap (λ z. c.loop-i.i * z) e in
    elim c.if-arena-k-eq1.branch [
      | then-arena-k-eq1 w ↦
          turn_stop _ _ _ _ _ _ c.args.arena.now.positions c.requires.start_ranked _ _ _ _ _ c.loop-i.invariant c.loop-i-test.true _ refl
          _ _ _ at (same ∙ e) c.requires.table_size_in_bounds w.if-arena-k-eq1.true w.put_stop.ensures _ _ _ w.table-is w.rows-is w.m-is
      | else-arena-k-eq1 w ↦
          turn_choice _ _ _ _ _ _ c.args.arena.now.positions c.requires.start_ranked _ _ _ _ _ c.loop-i.invariant c.loop-i-test.true _ refl
          _ c.requires.ranks_value w.if-arena-k-eq1.false _ _ w.put_answers.ensures _ _ _ _ _ _ at (same ∙ e) c.requires.table_size_in_bounds refl (w.put_row-m.ensures.value, (w.put_row-m.ensures.rows_after, w.put_row-m.ensures.cells_after))
          _ _ _ w.table-is w.rows-is w.m-is
    ]

pub returns : goal.returns
returns c =
    let whole = turn_answer _ _ _ _ _ _ c.args.arena.now.positions c.requires.start_ranked _ _ _ _ _ c.loop-i.invariant c.loop-i-test.false in
    record { value = whole.0; table_after = whole.1 }
