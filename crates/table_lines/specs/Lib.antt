-- The definitions that the contracts of `table_lines` cite.
pub mod Refused
pub mod Bytes
pub mod Cases
