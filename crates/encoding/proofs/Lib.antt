-- Laws of the encoder's definitions.
pub mod LookLaws
pub mod Passed
pub mod Stands
pub mod FoundLaws
