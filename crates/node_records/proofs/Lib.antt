-- Laws of the two loops.
pub mod Copied
pub mod Stored
