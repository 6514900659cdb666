-- The node table and the key table that the decoder fills.
pub mod Stored
pub mod Offsets
