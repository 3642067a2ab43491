-- What the proofs of `expand_one` cite.
pub mod Laws
