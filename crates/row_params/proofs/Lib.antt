-- What the proofs of `row_params` cite.
pub mod Laws
