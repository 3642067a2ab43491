-- The definitions that the contracts of `rounding` cite.
pub mod Rounding
pub mod Guess
