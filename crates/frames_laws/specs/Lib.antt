-- The index of a run that is built frame by frame, what is proved of it, and a worked case.
pub mod BuiltIndex
pub mod Cases
