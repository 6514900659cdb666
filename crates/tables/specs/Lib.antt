-- What every layer shares: choosing by a Bool, and what a lent table holds.
pub mod Choose
pub mod Tables
