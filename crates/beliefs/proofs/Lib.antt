-- beliefs in memory
pub mod LimitsLaws
pub mod BeliefMemoryLaws
pub mod TwinsLaws
pub mod ApartPlaces
-- what the search leaves
pub mod NumberedRows
pub mod ListedBeliefs
