-- The sizes of the plain solver's arrays.
pub mod Sizes
