-- What the proofs of `numeric` and of the crates above it cite.
pub mod Laws
pub mod Order
pub mod Patterns
pub mod Bounds
pub mod Lists
