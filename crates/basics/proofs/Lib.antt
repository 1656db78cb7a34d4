-- General laws.
-- the order of a step
pub mod OrderLaws
-- Booleans, and searches below a bound
pub mod Booleans
pub mod SaysLaws
pub mod BoundedLaws
pub mod GuardedTests
-- an error that is handed on
pub mod HandedOn
-- lists
pub mod ListsLaws
pub mod MemberLaws
-- lists in memory: runs of stores, a part that is lent, loops that fill from the front, rows of one width
pub mod Stores
pub mod LentPart
pub mod Filling
pub mod EqualRows
-- bits
pub mod BitsLaws
-- what can be reached
pub mod ReachLaws
pub mod SameSearch
pub mod GrowingList
pub mod BreadthFirst
pub mod FirstMet
-- bytes and text
pub mod BytesLaws
pub mod PiecesLaws
pub mod NumbersLaws
pub mod TextLaws
pub mod WriterLaws
