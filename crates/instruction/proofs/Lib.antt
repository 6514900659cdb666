-- Laws of one instruction.
pub mod OpcodeLaws
pub mod InstructionLaws
pub mod SizeLaws
pub mod LowLaws
