-- Tables in use: the printing call; what is written for a problem; a table run step by step.
pub mod Print
pub mod Response
pub mod Running
