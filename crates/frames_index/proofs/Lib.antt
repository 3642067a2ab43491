-- What the proofs of `frames_index` cite, and laws for those who read a checked index.
pub mod Laws
pub mod IndexNumberLaws
