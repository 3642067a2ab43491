-- What may be relied on where a list was stitched.
pub mod StitchAccount
pub mod Cases
