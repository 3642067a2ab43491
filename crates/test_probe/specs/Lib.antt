-- The definitions that the contracts of `test_probe` cite.
pub mod Probe
