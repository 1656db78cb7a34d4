-- the states accept exactly what satisfies; which they are; where letters lead
pub mod Acceptance
pub mod StatesLaws
pub mod NumberedSuccessors
-- words in memory, and what exploring leaves
pub mod LimitsLaws
pub mod PlanesLaws
pub mod ExploredStates
-- the front page
pub mod Main
