-- The definitions that the contracts of `c_grid_stitch` cite.
pub mod Entry
pub mod Stitching
