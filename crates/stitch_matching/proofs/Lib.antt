-- What the proofs of functions cite.
pub mod Joining
pub mod Shares
