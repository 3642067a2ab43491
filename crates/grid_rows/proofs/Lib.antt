-- Laws that the proofs of `grid_rows` and of the crates above share.
pub mod Laws
