-- Numbers that refuse an input, and what is proved of them.
pub mod Refusal
pub mod RefusalLaws
pub mod Answers
pub mod Numbered
pub mod NumberedLaws
pub mod AnswersLaws
