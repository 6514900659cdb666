-- What a tree is, how BIP 379 writes it, and what the rows of `decode` do. That they accept exactly the written forms of well-typed, allowed trees is proved in proofs/.
-- Definitions, in the order to read them
pub mod Tree
pub mod Written
pub mod Allowed
pub mod Types
pub mod Table
pub mod Rows
pub mod Machine
pub mod Outcome
pub mod RowForm
pub mod Statements
pub mod RoomLaws
pub mod Examples
