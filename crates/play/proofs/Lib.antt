-- histories; orders of a step, and ranks
pub mod HistoryLaws
pub mod StepOrder
pub mod RankLaws
pub mod CanChoose
pub mod SmallestChoice
-- plans, which see their step's observation if the order lets them: the best one, and why none does better
pub mod Plans
pub mod UpperBound
pub mod LowerBound
pub mod TrapsDefeat
pub mod FiniteArena
pub mod BestPlan
pub mod Optimality
pub mod ReadNeverWorse
-- beliefs
pub mod BeliefsKnow
pub mod Believed
-- the table
pub mod SameStrategy
pub mod RankedRows
pub mod CellsLaws
pub mod TableLaws
pub mod IsTableLaws
pub mod ReadRank
pub mod HistoryRanks
pub mod OneChoice
pub mod OneTable
pub mod TableIs
-- the answer; positions by another name have the same
pub mod AnswerLaws
pub mod SameAnswer
pub mod BeliefsByHistories
pub mod AnswerTable
-- what was answered before is answered still
pub mod KeptAnswers
