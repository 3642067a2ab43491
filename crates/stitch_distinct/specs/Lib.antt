-- The definitions that the contracts of `stitch_distinct` cite, and what is proved of them.
pub mod Distinct
pub mod DistinctLaws
