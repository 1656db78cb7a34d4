-- What the proofs of `lines::declaring` use.
pub mod DeclareSignal
pub mod NameTest
