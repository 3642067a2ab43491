-- What the proofs of other crates cite.
pub mod GridCenter
pub mod GridRecords
pub mod GridSound
