-- The definitions that the contracts of `expand_trace` cite, and worked cases.
pub mod Trace
pub mod FallbackPeaks
pub mod Cases
