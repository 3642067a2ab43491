-- The proofs of what specs/ states, and what the proofs of functions cite.
pub mod ChosenLaws
pub mod Ranking
pub mod Laws
pub mod Places
