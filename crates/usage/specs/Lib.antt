-- Which of the declared signals no rule uses.
pub mod Used
pub mod Declarations
