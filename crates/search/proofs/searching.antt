-- What the proofs of `search::searching` use.
pub mod SearchEnd
pub mod NextMade
pub mod ExpandLoop
