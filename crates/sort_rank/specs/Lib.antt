-- The definitions that the contracts of `sort_rank` cite, what is proved of them, and worked cases.
pub mod Rank
pub mod RankLaws
pub mod Cases
