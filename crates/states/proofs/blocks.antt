-- What the proofs of `states::blocks` use.
pub mod CarriedWords
