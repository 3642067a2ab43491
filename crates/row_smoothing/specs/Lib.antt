-- The definitions that the contracts of `row_smoothing` cite, what is proved of them, and worked cases.
pub mod Smoothing
pub mod SmoothLaws
pub mod Steps
pub mod InRange
pub mod Cases
