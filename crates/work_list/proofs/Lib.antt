-- Laws of entries as numbers, and of the work list.
pub mod PackLaws
pub mod WorkLaws
