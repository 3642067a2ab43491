-- The proofs of what specs/ states, and what the proofs of functions cite.
pub mod Records
pub mod Laws
pub mod Missing
pub mod Words
pub mod RoundTrip
