-- Laws of the pieces.
pub mod EntryLaws
pub mod WriteLaws
