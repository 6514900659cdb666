-- Laws that the functions' proofs cite.
pub mod FeedLineLaws
pub mod FeedingLaws
