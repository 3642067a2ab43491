-- What the proofs of `expand_window` cite.
pub mod WindowLaws
