-- What the proofs of `expand_placed` cite, and where a placed peak lies.
pub mod Laws
