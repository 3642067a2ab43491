-- The definitions that the contracts of `row_baselines` cite.
pub mod Lows
pub mod LowsCases
pub mod Stack
pub mod Searched
