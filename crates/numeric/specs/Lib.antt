-- The definitions that the contracts of `numeric` cite.
pub mod Arith
pub mod Numeric
pub mod Plain
