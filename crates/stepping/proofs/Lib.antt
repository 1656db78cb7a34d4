-- the calls
pub mod PositionLaws
pub mod AnswersDue
-- a cabinet stops within the number shown
pub mod StopsInTime
