-- `game::solving::solve` meets its contract, by that of `solve_source`: short memory is refused, and work memory is cleared.
-- Assumes nothing.
use mathlib.Core.Path.{sym, ◌∙◌}
use lib.Seq.{length-take-le, length_front}
use Rattle.game.proofs.solving.WholeCall.{short_right, long_work, long_table, long_right}
use Rattle.game.proofs.solving.solve.Goals as goal

pub returns-then-work-table : goal.returns-then-work-table
returns-then-work-table c =
    let m = short_right c.args.source.now c.args.work.now c.args.table.now c.if-work-table.true in
    record { answer = m.0; rows = m.1; cleared = m.2; due = m.3 }

pub slice_bounds-solve_source-end : goal.slice_bounds-solve_source-end
slice_bounds-solve_source-end c =
    long_work c.args.work.now c.args.table.now c.if-work-table.false

pub slice_bounds-solve_source-end-2 : goal.slice_bounds-solve_source-end-2
slice_bounds-solve_source-end-2 c =
    sym (length-take-le 4128 c.args.work.now (long_work c.args.work.now c.args.table.now c.if-work-table.false))

pub solve_source-r-requires : goal.solve_source-r-requires
solve_source-r-requires c =
    record { sets_len = length-take-le 4128 c.args.work.now (long_work c.args.work.now c.args.table.now c.if-work-table.false); table_size_in_bounds = long_table c.args.work.now c.args.table.now c.if-work-table.false }

pub returns : goal.returns
returns c =
    let m = long_right c.args.work.now c.args.table.now c.if-work-table.false c.args.source.now c.solve_source-r.result c.solve_source-r.new.table c.solve_source-r.ensures.value c.solve_source-r.ensures.table_after
    _ (length_front c.args.work.now c.solve_source-r.new.sets 4128 c.solve_source-r.auto.sets) in
    record { answer = m.0; rows = m.1; cleared = c.fill.ensures.after (λ y e. e) ∙ m.2; due = m.3 }
