-- Problems and traces: reading a problem, what it denotes by the written grammar, and judging a trace.
pub mod Limits
pub mod Problem
pub mod Satisfies
pub mod Within
pub mod Denotes
pub mod Refuses
pub mod Trace
pub mod Judge
pub mod Reading
