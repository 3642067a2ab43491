-- Laws that proofs use.
pub mod Extremes
pub mod PeakListLaws
