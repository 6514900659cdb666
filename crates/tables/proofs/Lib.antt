-- Laws of lent tables.
pub mod PutLaws
pub mod FlatLaws
pub mod NewestLaws
pub mod BoolLaws
pub mod ListLaws
