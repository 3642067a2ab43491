-- The laws that the proofs of `grid_byte_rows` use.
pub mod Laws
