-- texts that are made of lines, and where two differ
pub mod WholeLines
pub mod DifferenceLaws
-- the lines of a table's text; the table that a text is compared with
pub mod ShownCells
pub mod PrintLines
pub mod CandidateLaws
pub mod CandidatePrint
-- what is written is read back
pub mod RowBack
pub mod SameRows
pub mod ReadBack
-- the ranks
pub mod FaultLaws
-- the call
pub mod LoadedIffDue
pub mod LoadedAsLaws
pub mod LongerText
-- the front page
pub mod Main
