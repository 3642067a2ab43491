-- What the proofs of `expand_trace` cite, and laws of what is written for those who go on from it.
pub mod Laws
pub mod Peaks
