-- What the proofs of the functions for ranks use.
pub mod ChoiceLoop
pub mod RoundLoop
