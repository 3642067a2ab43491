-- The definitions that the contracts of `grid_rows` cite: the peaks of a grid, and what the steps over its rows ask and leave.
pub mod Grid
pub mod Steps
pub mod Lent
