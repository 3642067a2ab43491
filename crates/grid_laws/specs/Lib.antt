-- What holds of the peaks of a grid and of their records.
pub mod GridCenter
pub mod GridRecords
pub mod GridSound
pub mod Cases
