-- Laws of what a reading and a writing make.
pub mod AgainLaws
