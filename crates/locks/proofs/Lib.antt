-- Laws of keys alone, locktimes and hash locks.
pub mod KeyLaws
pub mod LeafLaws
