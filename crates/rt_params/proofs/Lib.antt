-- Laws of thresholds and parameters that are handed over as numbers.
pub mod GivenLaws
