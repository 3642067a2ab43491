-- The definitions that the contracts of `expand` cite, and what is proved of them.
pub mod Steps
pub mod ExpandCall
pub mod Lists
pub mod ExpandLaws
