-- The definitions that the contracts of `rt_record` cite, and what is proved of them.
pub mod RtRecord
pub mod RoundTrip
