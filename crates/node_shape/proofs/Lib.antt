-- Laws that the proofs of this crate and of those above it cite.
pub mod RowLaws
pub mod KeyLaws
pub mod ValueLaws
