-- names
pub mod NamesLaws
-- the reader: its equations, and that it finds exactly what the grammar derives
pub mod ParseCases
pub mod ReadsInside
pub mod ParseLaws
pub mod GrammarLaws
pub mod Sound
pub mod Complete
-- plan words
pub mod PlanHeads
pub mod PlanParseLaws
pub mod ReadIffDerived
-- what the code that reads a phrase answers
pub mod AnswerLaws
pub mod PlanAnswers
-- the front page
pub mod Main
