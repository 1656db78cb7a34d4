-- A formula's parts in lent records: reading a problem into them, and judging a trace by them.
pub mod Reading
pub mod Judging
