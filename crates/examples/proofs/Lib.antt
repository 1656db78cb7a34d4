-- The worked examples, by computation.
pub mod Computed
pub mod SmallStateSpaces
pub mod Main
