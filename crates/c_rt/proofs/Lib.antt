-- Laws of the words that C entries of the retention level answer.
pub mod RtWords
pub mod WindowWords
pub mod SearchWords
