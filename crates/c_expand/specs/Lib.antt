-- The definitions that the contracts of `c_expand` cite.
pub mod Expansion
