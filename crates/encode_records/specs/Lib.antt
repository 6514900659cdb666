-- The encoder for callers who have node records.
pub mod RecordEncoding
pub mod RecordEncodingTheorems
