-- Laws that the proofs of the functions cite.
pub mod StepLaws
pub mod RunLaws
pub mod SteppingLaws
pub mod EndLaws
pub mod CloseLaws
