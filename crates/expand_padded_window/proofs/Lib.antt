-- What the proofs of `expand_padded_window` cite, and laws of windows for those who go on from them.
pub mod Laws
