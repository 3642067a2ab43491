-- The definitions that the contracts of `stitch_grouping` cite, what is proved of them, and worked cases.
pub mod Cases
pub mod Grouping
pub mod GroupingLaws
pub mod Walk
