-- What the proofs of several functions use.
pub mod RanksBelow
pub mod FirstLeast
pub mod PositionMemoryLaws
