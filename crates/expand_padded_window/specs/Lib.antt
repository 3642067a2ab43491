-- The definitions that the contracts of `expand_padded_window` cite, and worked cases.
pub mod FrameWindow
pub mod Cases
