-- What belongs to no layer.
-- sizes that several layers build on, and the order of a step
pub mod Limits
pub mod Order
-- lists, and statements as Booleans
pub mod Lists
pub mod Member
pub mod Says
-- numbers made of bits, and searches below a bound
pub mod Bits
pub mod Bounded
-- what can be reached by steps, and where they lead
pub mod Reach
pub mod Successors
-- bytes, numbers and lines of text
pub mod Bytes
pub mod Pieces
pub mod Numbers
pub mod Text
pub mod Writer
