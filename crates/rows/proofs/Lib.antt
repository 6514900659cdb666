-- Laws of the rows.
pub mod AndVLaws
pub mod EntryLaws
