-- The reader for callers who lend node records.
pub mod RecordOutcome
pub mod RecordOutcomeTheorems
