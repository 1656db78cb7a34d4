-- What the proofs of `lines::adding` use.
pub mod AddFormula
pub mod Joint
pub mod TextTest
