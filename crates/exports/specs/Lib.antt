-- What the exported entries answer.
pub mod Answers
pub mod AnswerLaws
pub mod Encodings
pub mod EncodingLaws
