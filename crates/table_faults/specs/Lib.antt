-- What the contracts of `table_faults` cite, and what is proved of it.
pub mod Faults
pub mod Facts
pub mod Cases
