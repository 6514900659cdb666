-- The reader over lent tables.
pub mod Read
pub mod ReadTheorems
