-- Laws that the proofs of this crate and of those above it cite.
pub mod SpelledLength
pub mod NodeBytes
pub mod NodeEndings
pub mod LengthTheorem
pub mod CappedLaws
pub mod KindLaws
pub mod WalkLaws
pub mod SumLaws
