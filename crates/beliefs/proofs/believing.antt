-- What the proofs of the functions for beliefs in memory use.
pub mod MemberLoop
