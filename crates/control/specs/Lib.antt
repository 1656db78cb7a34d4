-- What is typed and what is written.
pub mod Dialogue
