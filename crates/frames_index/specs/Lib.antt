-- The definitions that the contracts of `frames_index` cite, what is proved of them, and worked cases.
pub mod FrameIndex
pub mod IndexNumber
pub mod IndexNumberLaws
pub mod Cases
