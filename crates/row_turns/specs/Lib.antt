-- The definitions that the contracts of `row_turns` cite.
pub mod Turns
