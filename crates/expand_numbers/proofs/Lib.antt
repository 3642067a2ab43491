-- What the proofs of `expand_numbers` cite.
pub mod Laws
