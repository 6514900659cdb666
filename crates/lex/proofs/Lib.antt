-- Laws of the lexer.
pub mod ScanLaws
pub mod FillLaws
pub mod Derivation
pub mod Theorems
