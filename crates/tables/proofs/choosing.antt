-- What the proofs of the functions for choices use.
pub mod BestLoop
