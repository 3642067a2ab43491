-- What a word tells.
pub mod Words
