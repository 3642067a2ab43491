-- The definitions that the contracts of `c_frames` cite.
pub mod Scale
pub mod View
pub mod Sums
pub mod Marginals
pub mod Traces
pub mod ManyTraces
