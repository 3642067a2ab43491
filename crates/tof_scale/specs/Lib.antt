-- The definitions that the contracts of `tof_scale` cite, what is proved of them, and worked cases.
pub mod Tof
pub mod TofAnswers
pub mod TofLaws
pub mod Exact
pub mod Cases
