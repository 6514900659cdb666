-- One instruction: token codes, the opcode table, script numbers, pushes, and what an instruction gives.
pub mod Code
pub mod Opcode
pub mod Error
pub mod Number
pub mod Push
pub mod Instruction
pub mod Examples
