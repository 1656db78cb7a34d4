-- Formulas, what they mean on a trace, the plan words, and the parts of formulas; the values of parts, how a trace is judged by them,
-- and parts in memory.
pub mod Limits
pub mod Letter
pub mod Formula
pub mod Semantics
pub mod Constraints
pub mod Meanings
pub mod Parts
pub mod Values
pub mod Entries
pub mod Codes
