-- The rows of all entries: what the small functions of thresh and and_v answer.
pub mod Thresh
pub mod Ends
