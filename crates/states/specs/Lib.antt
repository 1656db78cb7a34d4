-- The states of a formula; then the words and maps of letters in memory, and their sizes.
pub mod States
pub mod Limits
pub mod Planes
