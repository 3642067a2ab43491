-- The proofs of what specs/ states, and what the proofs of functions cite.
pub mod Account
pub mod Laws
pub mod Owners
pub mod PassLaws
