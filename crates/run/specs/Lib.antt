-- The rows run over lent tables.
pub mod Stepping
pub mod Runs
