-- What the proofs of `row_smoothed` and of the crates above it cite.
pub mod Zeros
pub mod Laws
