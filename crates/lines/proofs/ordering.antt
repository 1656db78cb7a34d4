-- What the proofs of `lines::ordering` use.
pub mod SayOrder
