-- Laws that the functions' proofs cite.
pub mod LayingLaws
pub mod TakingLaws
pub mod TurningLaws
