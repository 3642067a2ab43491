-- What the proofs of `expand` cite.
pub mod CallLaws
pub mod AloneLaws
pub mod ExpandLaws
