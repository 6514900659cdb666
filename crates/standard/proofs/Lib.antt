-- Theorems over the definitions of specs/: the reader's outcome over bytes, reading lexemes, types, tables, written form, places, counts, the form that the rows build
pub mod Demand3
pub mod ReadLexemes
pub mod TypesAgree
pub mod TreeLaws
pub mod TableLaws
pub mod WrittenLaws
pub mod PlaceLaws
pub mod CountLaws
pub mod FormLaws
-- What their proofs stand on: the laws of the rules, runs without limits, and the invariants of a run
pub mod RuleLaws
pub mod Runs
pub mod Sound
pub mod Complete
pub mod Bound
pub mod Carried
pub mod ScriptLaws
-- Theorems: what is read in tables of the sizes that `room` answers
pub mod RoomLaws
