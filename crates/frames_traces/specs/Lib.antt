-- The definitions that the contracts of `frames_traces` cite, and worked cases.
pub mod Traces
pub mod Cases
