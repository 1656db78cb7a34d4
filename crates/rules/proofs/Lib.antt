-- reading a problem: what it denotes, within which limits, and which numbers it may be refused with
pub mod SatisfiesLaws
pub mod JoinedFormulas
pub mod LineTests
pub mod LineMeaning
pub mod DenotesLaws
pub mod ProblemOrder
pub mod RefusesLaws
pub mod ReadIffDue
pub mod ProblemLaws
pub mod WithinLimits
pub mod ReadingLaws
-- judging a trace
pub mod TraceLaws
pub mod VerdictCases
pub mod JudgedIffDue
pub mod JudgeLaws
-- the front page
pub mod Main
