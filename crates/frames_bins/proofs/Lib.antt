-- The laws that the proofs of `frames_bins` share.
pub mod Laws
pub mod Quotient
pub mod Straight
