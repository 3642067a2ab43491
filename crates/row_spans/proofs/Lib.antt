-- What the proofs of `row_spans` and of the crates above it cite.
pub mod Laws
