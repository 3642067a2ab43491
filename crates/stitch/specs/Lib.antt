-- The definitions that the contracts of `stitch` cite, and what is proved of them.
pub mod StitchNumber
pub mod StitchNumberLaws
pub mod Answer
