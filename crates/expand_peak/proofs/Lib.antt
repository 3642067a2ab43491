-- What the proofs of `expand_peak` cite.
pub mod Laws
