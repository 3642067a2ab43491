-- The laws that the proofs of `grid_bytes` use.
pub mod Laws
