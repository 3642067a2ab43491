-- The definitions that the contracts of `row_apex` cite, and what is proved of them.
pub mod Apex
pub mod Candidates
