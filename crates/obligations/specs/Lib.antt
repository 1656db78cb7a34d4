-- Obligations of a formula's parts; patterns a word at a time, and the values of all parts in memory; letters by number.
pub mod Obligation
pub mod Words
pub mod Values
pub mod Letters
