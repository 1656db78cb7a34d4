-- What is known of an input, of a line and of an argument, and where in a buffer they stand.
pub mod Arguments
pub mod Lines
pub mod Reading
