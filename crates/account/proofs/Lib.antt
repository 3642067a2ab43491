-- The proofs of what specs/ states.
pub mod Grids
pub mod Expansion
pub mod Demand3
pub mod Cases
pub mod Twelve
