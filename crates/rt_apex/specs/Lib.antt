-- The definitions that the contracts of `rt_apex` cite, and worked cases.
pub mod InTime
pub mod Steps
