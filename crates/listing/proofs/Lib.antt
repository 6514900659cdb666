-- Laws that the functions' proofs cite.
pub mod WriteLaws
pub mod LineLaws
