-- A table read back from its text.
pub mod Candidate
pub mod Difference
pub mod LoadedAs
