-- What the proofs of the functions for the comparison use.
pub mod DifferenceLoop
