-- The definitions that the contracts of `frames_view` cite, what is proved of them, and worked cases.
pub mod ViewNumber
pub mod Answer
pub mod ViewLaws
pub mod Cases
pub mod Lists
