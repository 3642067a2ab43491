-- What the proofs of `row_turns` and of the crates above it cite.
pub mod Laws
pub mod Apexes
