-- The worked examples of REFERENCE.md, and counts of states and beliefs.
pub mod Count
pub mod Examples
