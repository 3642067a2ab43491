-- The definitions that the contracts of `stitch_merging` cite, and what is proved of them.
pub mod Merging
pub mod MergingCases
pub mod MergingLaws
pub mod MergingWeights
pub mod Walk
