-- The definitions that the contracts of `row_record` cite, and what is proved of them.
pub mod Record
pub mod RoundTrip
