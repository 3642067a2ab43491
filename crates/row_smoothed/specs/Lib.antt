-- The definitions that the contracts of `row_smoothed` cite.
pub mod SmoothRow
