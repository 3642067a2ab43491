-- The definitions that the contracts of `expand_many` cite.
pub mod Many
pub mod Calls
pub mod Steps
