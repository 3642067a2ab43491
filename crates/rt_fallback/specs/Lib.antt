-- The definitions that the contracts of `rt_fallback` cite, what is proved of them, and worked cases.
pub mod Fallback
pub mod FallbackNumber
pub mod FallbackNumberLaws
pub mod Cases
