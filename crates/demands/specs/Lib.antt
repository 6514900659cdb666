-- The three demands on this reader, sentence by sentence, as theorems over its public entries.
pub mod Demands
