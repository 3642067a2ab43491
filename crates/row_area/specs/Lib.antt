-- The definitions that the contracts of `row_area` cite, what is proved of them, and worked cases.
pub mod Area
pub mod AreaLaws
pub mod Cases
