-- Laws of writing keys.
pub mod KeyLaws
