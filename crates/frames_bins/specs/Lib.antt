-- The definitions that the contracts of `frames_bins` cite, and worked cases.
pub mod FrameBins
pub mod Steps
pub mod Cases
pub mod Lists
