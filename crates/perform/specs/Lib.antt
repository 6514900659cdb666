-- What a row asks for, carried out on the lent tables.
pub mod View
