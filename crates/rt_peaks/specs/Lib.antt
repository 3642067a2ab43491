-- The definitions that the contracts of `rt_peaks` cite, what is proved of them, and worked cases.
pub mod Trace
pub mod TraceLaws
pub mod Steps
pub mod Cases
