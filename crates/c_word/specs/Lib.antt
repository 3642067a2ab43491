-- The word that a C entry answers.
pub mod Word
