pub mod DistinctLaws
pub mod Laws
