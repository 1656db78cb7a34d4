-- The tests, in the shape of the code, and what they say.
pub mod WellFormedLaws
pub mod TestsSay
