-- A table's text.
pub mod Limits
pub mod Text
