-- The definitions that the contracts of `rt_listing` cite, and worked cases.
pub mod Shares
pub mod Places
pub mod Cases
