-- The definitions that the contracts of `test_replay_stitching` cite.
pub mod Replay
pub mod Steps
