-- Laws of the words that C entries answer.
pub mod ViewWords
pub mod SumWords
