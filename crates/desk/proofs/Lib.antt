-- Laws that the functions' proofs cite.
pub mod SendingLaws
pub mod ServingLaws
