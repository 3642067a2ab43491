-- The proofs of what specs/ states.
pub mod Zeros
pub mod Words
pub mod Placing
pub mod Times
pub mod ExpandAccount
pub mod Calls
