-- That tokens fix bytes.
pub mod NumberSpelling
pub mod InstructionSpelling
pub mod ScriptSpelling
pub mod SpellingLexes
pub mod PlaceTheorems
