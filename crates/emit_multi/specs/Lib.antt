-- Multis and multi_as with their keys.
pub mod Multis
