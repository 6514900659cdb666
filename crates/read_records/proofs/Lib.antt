-- Laws of the flat part.
pub mod RecordLaws
