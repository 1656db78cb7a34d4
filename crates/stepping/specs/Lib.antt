-- A table run step by step.
pub mod Position
pub mod Stopping
