-- The definitions that the contracts of `rt_params` cite, and worked cases.
pub mod Modes
pub mod Expand
pub mod Given
pub mod Cases
