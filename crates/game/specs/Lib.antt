-- A problem's game and what is answered for it; what is believed after a history; what is due, and what was answered before; the states' tables
-- in memory.
pub mod Solution
pub mod Believed
pub mod SolvedAs
pub mod EarlierCount
pub mod StateMemory
