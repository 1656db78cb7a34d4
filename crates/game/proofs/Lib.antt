-- the game of a problem: its letters, its states, its beliefs
pub mod LetterNumbers
pub mod SameBeliefs
pub mod StatesJudge
pub mod BelievedLaws
pub mod ExploredAutomaton
-- what is due
pub mod SolutionCases
pub mod SolvedAsLaws
pub mod SolvedAsCases
pub mod LentMemory
-- what was answered before
pub mod EarlierCountLaws
-- the front page
pub mod Main
