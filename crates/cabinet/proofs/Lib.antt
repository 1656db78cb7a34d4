-- the calls
pub mod PrintLaws
pub mod PrintedIffDue
pub mod ResponseLaws
-- a table that the solver gives, printed and run; tables carried as text
pub mod LaidRows
pub mod RunningLaws
pub mod SolvedTable
pub mod CarriedTable
-- the front page
pub mod Main
