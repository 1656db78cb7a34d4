-- What the proofs of `states::automaton` use.
pub mod Prepared
