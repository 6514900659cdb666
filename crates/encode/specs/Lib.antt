-- The encoder.
pub mod Encode
pub mod Decided
pub mod EncodeTheorems
