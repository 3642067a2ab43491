-- What the proofs of `peaktable` share.
pub mod Laws
