-- The proofs of what specs/ states, and what the proofs of functions cite.
pub mod Laws
pub mod GridNumberLaws
pub mod OneRow
