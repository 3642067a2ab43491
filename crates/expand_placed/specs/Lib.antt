-- The definitions that the contracts of `expand_placed` cite, what is proved of them, and worked cases.
pub mod Placed
pub mod PlacedLaws
pub mod Cases
