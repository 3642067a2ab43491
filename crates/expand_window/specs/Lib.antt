-- The definitions that the contracts of `expand_window` cite, what is proved of them, and worked cases.
pub mod Window
pub mod WindowLaws
pub mod Cases
