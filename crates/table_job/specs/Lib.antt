-- What the contracts of `table_job` cite.
pub mod Stands
