-- Laws of multi and multi_a.
pub mod TestLaws
pub mod MultiLaws
pub mod MultiALaws
