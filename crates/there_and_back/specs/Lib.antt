-- From a tree to bytes and back.
-- Theorems
pub mod ThereAndBack
-- What they stand on
pub mod Ranged
pub mod FoundTrees
pub mod FormedLexemes
pub mod SpelledBytes
pub mod ReadTables
pub mod ReadTrees
pub mod Numbers
