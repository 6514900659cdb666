-- The bytes of a text in hexadecimal.
pub mod HexText
pub mod HexTextLaws
