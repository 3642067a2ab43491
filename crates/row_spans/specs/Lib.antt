-- The definitions that the contracts of `row_spans` cite.
pub mod Span
pub mod Memo
pub mod Steps
