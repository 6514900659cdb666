-- What the rows of `decode` are read with.
pub mod Tokens
pub mod Next
pub mod Request
pub mod Told
pub mod Examples
