-- What the proofs of `frames_sums` cite, and laws of sums for those who go on from them.
pub mod Laws
pub mod InRange
