-- What the proofs of `states::maps` use.
pub mod MapLoops
