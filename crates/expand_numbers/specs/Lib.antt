-- The definitions that the contracts of `expand_numbers` cite.
pub mod ExpandNumber
