-- reading into records
pub mod ReadingLaws
pub mod ListedIffDue
-- judging by them
pub mod JudgingLaws
pub mod JudgedByIffDue
-- both
pub mod ReadOnce
-- the front page
pub mod Main
