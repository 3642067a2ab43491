-- The definitions that the contracts of `frames_many_traces` cite, what is proved of them, and worked cases.
pub mod ManyTraces
pub mod Ready
pub mod Steps
pub mod Cases
