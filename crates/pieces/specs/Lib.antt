-- The pieces of a script still to be written.
pub mod Pieces
