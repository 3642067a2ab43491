-- The definitions that the contracts of `row_params` cite.
pub mod Params
