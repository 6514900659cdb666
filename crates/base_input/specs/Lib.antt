-- Bases and inputs. Definitions: 01's numbers, tests, the input rules of correctness.rs. Theorems: the files named Laws.
pub mod Numbers
pub mod Tests
pub mod Inputs
pub mod NumberLaws
pub mod InputLaws
pub mod LetterLaws
pub mod TestLaws
