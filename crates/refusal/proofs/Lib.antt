-- The proofs of what specs/ states, and what the proofs of functions cite.
pub mod Walk
pub mod Bools
pub mod RefusalLaws
pub mod AnswersLaws
pub mod NumberedLaws
