-- What the proofs of other crates cite.
pub mod RowRecords
pub mod Signs
pub mod Whole
pub mod Heights
pub mod Crossings
pub mod Enclosed
pub mod Scans
pub mod Subscan
pub mod Area
pub mod RowSound
pub mod RowAccount
