-- Laws of the words that C entries of expansion answer.
pub mod ExpandWords
