-- sets
pub mod PatternSetLaws
pub mod ReachableSetsLaws
-- items in memory
pub mod SlotBytes
pub mod SlotsLaws
pub mod HalfSets
pub mod PackedSets
pub mod LimitsLaws
pub mod KeptItems
pub mod NextInPlace
-- the search, step by step and turn by turn
pub mod StepsFromItem
pub mod SearchTurns
