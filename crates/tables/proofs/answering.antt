-- What the proofs of the functions for `answer` use.
pub mod StartRank
