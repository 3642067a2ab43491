-- The definitions that the contracts of `grid_bytes` cite.
pub mod ByteGrid
