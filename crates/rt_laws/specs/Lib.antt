-- What holds of the listed apexes of a retention trace and of their records.
pub mod RtAccount
pub mod TimesInOrder
pub mod Cases
