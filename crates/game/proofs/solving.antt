-- What the proofs of the functions for the whole call use.
pub mod FromBeliefs
pub mod WholeCall
pub mod FromStates
pub mod FromSource
