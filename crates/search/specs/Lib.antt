-- Sets of patterns and what letters reach of them; then sets in memory, the maps of letters, and what the search leaves.
pub mod Limits
pub mod PatternSet
pub mod ReachableSets
pub mod Slots
pub mod Maps
pub mod Letters
pub mod Memory
