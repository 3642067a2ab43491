-- Laws that the proofs of `expand_many` and of the crates above share.
pub mod Few
pub mod Laws
