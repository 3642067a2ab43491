-- What the proofs of `row_baselines` cite.
pub mod Laws
pub mod Jump
pub mod Found
