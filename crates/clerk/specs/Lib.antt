-- What is owed for a part of the input, and that part after part it is what the program writes.
pub mod Owed
pub mod ProgramLaws
