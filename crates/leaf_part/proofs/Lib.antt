-- Laws of the part that is handed back.
pub mod PartLaws
