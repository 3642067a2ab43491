-- The definitions that the contracts of `frames_sums` cite, and worked cases.
pub mod Sums
pub mod Steps
pub mod Cases
