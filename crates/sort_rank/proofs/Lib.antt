-- The proofs of what specs/ states, and what the proofs of functions cite.
pub mod Laws
pub mod Sorted
pub mod Signs
pub mod Lists
pub mod Floats
