-- The limits that the contracts cite.
pub mod Limits
pub mod Cases
