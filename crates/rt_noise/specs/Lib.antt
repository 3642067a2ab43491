-- The definitions that the contracts of `rt_noise` cite, what is proved of them, and worked cases.
pub mod Noise
pub mod NoiseLaws
pub mod Cases
