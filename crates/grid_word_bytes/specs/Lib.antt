-- The definitions that the contracts of `grid_word_bytes` cite, what is proved of them, and worked cases.
pub mod Bytes
pub mod BytesLaws
pub mod Cases
