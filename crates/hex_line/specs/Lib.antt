-- What a line of hexadecimal means: digits, lines, a whole input; then, for the proof, what feeding a line byte by byte does.
pub mod Digits
pub mod Meant
pub mod Input
pub mod Feeding
pub mod Examples
