-- What the proofs of `rt_time` cite.
pub mod Laws
