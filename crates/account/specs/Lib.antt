-- Demand 3 in one piece, worked cases of it, and the twelve cases of document 01.
pub mod Demand3
pub mod Cases
pub mod Twelve
