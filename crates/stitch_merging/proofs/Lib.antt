-- The proofs of what specs/ states, and what the proofs of functions cite.
pub mod Halves
pub mod Laws
pub mod MergingLaws
pub mod MergingWeights
