-- `tables::writing::row_of` meets its contract. The invariant: no row passed is the position.
-- Assumes nothing.
use Rattle.tables.proofs.writing.RowNumbers.{Passed}
use Rattle.tables.proofs.writing.row_of.Given as goal

abbrev pub invariant-loop-i : goal.invariant-loop-i
invariant-loop-i l =
    Passed l.rows l.k l.i
