-- The verdict of the closing checks.
pub mod Verdicts
pub mod Held
