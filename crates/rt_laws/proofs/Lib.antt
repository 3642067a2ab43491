-- The proofs of what specs/ states.
pub mod RtAccount
pub mod Parabola
pub mod ClearTimes
pub mod TimesInOrder
