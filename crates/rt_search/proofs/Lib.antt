-- What the proofs of functions cite.
pub mod Orders
pub mod Listed
