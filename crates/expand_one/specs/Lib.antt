-- The definitions that the contracts of `expand_one` cite.
pub mod Steps
pub mod Runs
