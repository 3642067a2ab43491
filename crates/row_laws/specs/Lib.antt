-- What holds of the peaks of a row and of their records.
pub mod RowRecords
pub mod Enclosed
pub mod RowSound
pub mod Cases
pub mod RowAccount
