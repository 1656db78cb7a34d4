-- What the proofs of `usage::using` use.
pub mod FirstLoop
pub mod NamesLoop
