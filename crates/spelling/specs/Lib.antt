-- Canonical bytes: the spelling of lexemes, the lists that a script can give, and where tokens stand.
pub mod Spell
pub mod Lexemes
pub mod Places
pub mod Examples
