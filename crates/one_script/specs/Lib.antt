-- One tree, one script.
pub mod OneScript
pub mod SegwitSpelling
