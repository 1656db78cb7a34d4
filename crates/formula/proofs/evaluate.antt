-- What the proofs of `formula::evaluate` use.
pub mod EntryLoop
