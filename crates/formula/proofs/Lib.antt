-- the evaluator is the published relation
pub mod Agreement
-- the plan words mean what PDDL 3.0 says, `during` what the request's window does; how large they are
pub mod ConstraintsLaws
pub mod ConstraintsCounts
-- letters
pub mod LetterLaws
-- words of truth values
pub mod WordBits
-- parts, and the operators and the signals among them
pub mod OperatorBytes
pub mod PartsLaws
pub mod TemporalCount
pub mod UsedSignals
-- the values of parts, judging by them, and parts in memory
pub mod ValuesLaws
pub mod FormulaValues
pub mod EntriesLaws
pub mod CodesLaws
