-- The definitions that the contracts of `stitch_passes` cite, what is proved of them, and worked cases.
pub mod Account
pub mod Cases
pub mod Stitching
pub mod Steps
pub mod PassLaws
pub mod Lists
