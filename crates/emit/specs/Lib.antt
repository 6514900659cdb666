-- Writing lexemes one after the other.
pub mod Emission
