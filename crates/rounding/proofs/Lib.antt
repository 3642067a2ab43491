-- What the proofs of `rounding` and of the crates above it cite.
pub mod Laws
pub mod Guess
