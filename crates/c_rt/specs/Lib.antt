-- The definitions that the contracts of `c_rt` cite.
pub mod Noise
pub mod Window
pub mod Fallback
pub mod Search
