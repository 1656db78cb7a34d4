-- obligations, and patterns carried back
pub mod OperatorSpots
pub mod NumberedParts
pub mod ObligationLaws
pub mod CarriedBack
-- words of patterns, and the values of all parts
pub mod WordsLaws
pub mod StoredParts
pub mod ValuesLaws
-- letters
pub mod LettersLaws
