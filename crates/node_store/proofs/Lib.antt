-- Laws of the node table and of the key table.
pub mod NodeLaws
pub mod KeyLaws
