-- The definitions that the contracts of `rt_search` cite, and worked cases.
pub mod Retention
pub mod Steps
pub mod Cases
