-- The encoder's writing pass: what it gives, and what holds on the way.
pub mod Writing
pub mod Text
pub mod Pass
