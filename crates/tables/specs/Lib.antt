-- Positions and their ranks in memory, and what is answered for them.
pub mod PositionMemory
pub mod Outcome
