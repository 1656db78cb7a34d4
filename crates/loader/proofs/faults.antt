-- What the proofs of the functions for the first fault use.
pub mod FaultSteps
