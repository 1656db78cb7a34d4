use mathlib.Core.Path.{◌∙◌}
use Rattle.basics.proofs.BoundedLaws.{first_none, first_more}
use Rattle.loader.specs.Candidate.{goes_on}
use Rattle.loader.proofs.candidate.RowLoop.{row_next, row_goes, move_here}
use Rattle.loader.proofs.candidate.first_move.Goals as goal

pub loop-row-init : goal.loop-row-init
loop-row-init c =
    ((c.behind-at.ensures.upper_bound, c.behind-at.ensures.text_value), first_none (goes_on c.args.text.now))

pub returns-then-not-says_stop : goal.returns-then-not-says_stop
returns-then-not-says_stop c =
    let t = row_goes c.args.text.now c.loop-row.at c.loop-row.row c.loop-row.invariant.0 _ c.piece.ensures _ c.says_stop.ensures ∙ (rw c.if-not-says_stop.true) in
    let whole = move_here c.args.text.now c.loop-row.at c.loop-row.row c.loop-row.invariant.0 c.args.rows c.loop-row.invariant.1 c.loop-row-test.true t in
    record { upper_bound = whole.0; text_value = whole.1 }

pub loop-row-preserved : goal.loop-row-preserved
loop-row-preserved c =
    let f = row_goes c.args.text.now c.loop-row.at c.loop-row.row c.loop-row.invariant.0 _ c.piece.ensures _ c.says_stop.ensures ∙ (rw c.if-not-says_stop.false) in (
      row_next c.args.text.now c.loop-row.at c.loop-row.row c.loop-row.invariant.0 _ (c.behind-at-in-loop-row.ensures.upper_bound, c.behind-at-in-loop-row.ensures.text_value),
      first_more (goes_on c.args.text.now) c.loop-row.row c.loop-row.invariant.1 f,
    )
