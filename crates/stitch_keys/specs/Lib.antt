-- The definitions that the contracts of `stitch_keys` cite, what is proved of them, and worked cases.
pub mod Keys
pub mod KeysLaws
pub mod Cases
