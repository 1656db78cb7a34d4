-- What the proofs of the functions for the search for all beliefs use.
pub mod PairLoop
pub mod VisitLoop
pub mod Explored
