-- What the proofs of the functions for the candidate use.
pub mod CellLoop
pub mod RowLoop
