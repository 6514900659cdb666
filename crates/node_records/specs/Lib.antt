-- The node table as records.
pub mod Records
pub mod RecordTheorems
pub mod TableTheorems
