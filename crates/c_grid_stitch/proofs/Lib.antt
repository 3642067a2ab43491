-- The laws that the proofs of `c_grid_stitch` use.
pub mod Laws
pub mod StitchingLaws
