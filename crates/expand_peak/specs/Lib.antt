-- The definitions that the contracts of `expand_peak` cite.
pub mod Expanded
pub mod Steps
