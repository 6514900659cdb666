-- Laws that the functions' proofs cite.
pub mod NarrowLaws
pub mod ReplyLaws
