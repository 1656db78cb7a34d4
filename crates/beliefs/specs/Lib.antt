-- Beliefs in memory, and pairs that lead to the same states.
pub mod BeliefMemory
pub mod Twins
