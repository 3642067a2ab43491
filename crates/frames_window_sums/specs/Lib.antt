-- The definitions that the contracts of `frames_window_sums` cite, besides those of `frames_sums`.
pub mod Steps
