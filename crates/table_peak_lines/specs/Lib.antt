-- The definitions that the contracts of `table_peak_lines` cite.
pub mod RowLines
pub mod TableText
