-- The definitions that the contracts of `frames_marginals` cite, what is proved of them, and worked cases.
pub mod Marginals
pub mod Steps
pub mod Cases
