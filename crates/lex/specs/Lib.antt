-- The lexer: tokens, the whole script, the room that a script needs, and worked examples.
pub mod Token
pub mod Script
pub mod Room
pub mod Examples
