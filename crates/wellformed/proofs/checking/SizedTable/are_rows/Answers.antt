use mathlib.Core.Path.{sym, ◌∙◌}
use Rattle.wellformed.proofs.WellFormedLaws.{rows_fail}
use Rattle.wellformed.proofs.checking.SizedTable.are_rows.Goals as goal

pub returns-then-not-is_printable_row : goal.returns-then-not-is_printable_row
returns-then-not-is_printable_row c =
    rows_fail _ _ c.loop-row.row c.loop-row-test.true (sym c.is_printable_row.ensures ∙ c.if-not-is_printable_row.true)
