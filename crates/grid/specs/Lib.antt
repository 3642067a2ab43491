-- The definitions that the contracts of `grid` cite, what is proved of them, and worked cases.
pub mod GridNumber
pub mod GridNumberLaws
pub mod Answer
pub mod OneRow
pub mod GridCases
