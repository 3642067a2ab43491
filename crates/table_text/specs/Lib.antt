-- The definitions that the contracts of `table_text` cite, and what is proved of them.
pub mod Sizes
pub mod Text
pub mod Print
pub mod Facts
pub mod Table
pub mod Lines
pub mod Cases
