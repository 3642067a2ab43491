-- The definitions that the contracts of `frames_windows` cite, and worked cases.
pub mod Windows
pub mod Cases
