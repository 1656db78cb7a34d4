-- What the proofs of the functions for the table use.
pub mod RowCells
pub mod RowNumbers
pub mod RowLoop
pub mod SearchTurns
pub mod TableLoop
