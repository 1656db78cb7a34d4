-- What the proofs of the functions for patterns use.
pub mod DigitsBelow
