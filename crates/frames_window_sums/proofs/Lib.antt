-- What the proofs of `frames_window_sums` cite.
pub mod Laws
