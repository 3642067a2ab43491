-- The definitions that the contracts of `rt_choice` cite, what is proved of them, and worked cases.
pub mod Chosen
pub mod Ranking
pub mod Times
pub mod Cases
