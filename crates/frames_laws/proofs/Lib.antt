-- The proofs of what specs/ states.
pub mod Kept
pub mod Joined
pub mod BuiltIndex
