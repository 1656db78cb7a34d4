-- a refusal is told by its number and its place
pub mod RefusalLaws
-- the fields of a line and what it says
pub mod LinesLaws
pub mod LineCases
pub mod EffectLaws
pub mod LineFields
-- names and signals
pub mod DeclaredNames
pub mod UsedNames
-- from cells to the parts in memory
pub mod MemoryLaws
pub mod CellKinds
pub mod TreeCodes
pub mod PlanCounts
