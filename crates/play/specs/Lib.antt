-- The game.
pub mod Limits
-- the meaning: strategies, plays, winning, the worst case
pub mod Game
-- the answer: ranks and the choices taken, what positions know, beliefs, the table
pub mod Rank
pub mod History
pub mod Belief
pub mod Cells
pub mod Table
pub mod IsTable
pub mod Answer
-- how positions were counted before
pub mod EarlierCount
