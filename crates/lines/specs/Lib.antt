-- One line of a problem: the refusals, the fields of a line, what it says; then what the code keeps in memory.
pub mod Limits
pub mod Refusal
pub mod Lines
pub mod StepOrder
pub mod Effect
pub mod Memory
