-- What the program writes for a line and for an input.
pub mod Program
pub mod Narrow
