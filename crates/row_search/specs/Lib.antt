-- The definitions that the contracts of `row_search` cite, and what is proved of them.
pub mod Qualifying
pub mod Suppression
pub mod Account
pub mod QualifyingLaws
pub mod Room
pub mod SameLists
pub mod Found
pub mod Cases
