-- What the proofs of `table_job` share.
pub mod Laws
