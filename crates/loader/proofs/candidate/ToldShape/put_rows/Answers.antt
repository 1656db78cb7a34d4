use native.Mathlib.Omega.{arith}
use mathlib.Core.Path.{◌≡◌, refl, ◌∙◌}
use Rattle.loader.proofs.candidate.RowLoop.{row_next, row_line, rows_none, rows_more, rows_all_lem}
use Rattle.loader.proofs.candidate.ToldShape.put_rows.Goals as goal

pub loop-row-init : goal.loop-row-init
loop-row-init c =
    ((c.behind-at.ensures.upper_bound, c.behind-at.ensures.text_value), refl, rows_none c.args.self.now.shape c.args.text.now c.args.cells.now)

pub loop-row-preserved : goal.loop-row-preserved
loop-row-preserved c =
    let line = row_line c.args.text.now c.loop-row.at c.loop-row.row c.loop-row.invariant.0 _ c.piece.ensures in (
      row_next c.args.text.now c.loop-row.at c.loop-row.row c.loop-row.invariant.0 _ (c.behind-at-in-loop-row.ensures.upper_bound, c.behind-at-in-loop-row.ensures.text_value),
      c.put_row.auto.cells ∙ c.loop-row.invariant.1,
      rows_more c.args.self.now.shape c.args.text.now c.args.cells.now c.loop-row.row c.loop-row.cells c.loop-row.invariant.2 _ _ line c.put_row.ensures,
    )

pub returns : goal.returns
returns c =
    let e : c.loop-row.row ≡ c.args.self.now.shape.rows = omega (arith, c.loop-row-test.false) in
    rows_all_lem c.args.self.now.shape c.args.text.now c.args.cells.now c.requires c.loop-row.row c.loop-row.cells c.loop-row.invariant.2 e
