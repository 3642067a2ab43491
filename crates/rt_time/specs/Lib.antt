-- The definitions that the contracts of `rt_time` cite, and worked cases.
pub mod Time
pub mod Cases
