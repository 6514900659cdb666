-- What the checks of one node answer.
pub mod Shapes
