-- The definitions that the contracts of `stitch_matching` cite, and worked cases.
pub mod Matching
pub mod Group
pub mod Cases
