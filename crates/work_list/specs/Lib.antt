-- The work list over a table of 64-bit numbers.
pub mod Work
