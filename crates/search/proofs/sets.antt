-- What the proofs of `search::sets` use.
pub mod SetLoops
