-- The definitions that the contracts of `test_hex_lines` cite.
pub mod Lines
pub mod Judges
pub mod Parts
