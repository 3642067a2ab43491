-- The definitions that the contracts of `row` cite, and what is proved of them.
pub mod Row
pub mod RowNumber
pub mod RowNumberLaws
pub mod Written
pub mod Steps
