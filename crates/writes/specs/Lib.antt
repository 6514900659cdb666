-- What a step writes to the lent tables.
pub mod Written
