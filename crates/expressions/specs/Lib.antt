-- The row Expression: what its small functions answer.
pub mod Fragments
