-- The definitions that the contracts of `frames_scan_sums` cite, and worked cases.
pub mod Steps
pub mod Cases
