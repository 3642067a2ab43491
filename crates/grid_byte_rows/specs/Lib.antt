-- The definitions that the contracts of `grid_byte_rows` cite.
pub mod AsBytes
pub mod Call
