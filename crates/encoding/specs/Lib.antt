-- What the encoder makes of a node table: its checks, the bytes that it writes, and its whole outcome.
-- Definitions, in the order to read them
pub mod Form
pub mod Values
pub mod Checks
pub mod Encoding
pub mod Examples
-- Theorems
pub mod FormLaws
