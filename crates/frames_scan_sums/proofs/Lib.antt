-- What the proofs of `frames_scan_sums` cite.
pub mod Laws
