pub mod StitchNumberLaws
pub mod Laws
