pub mod Tokens
pub mod Seen
pub mod Lexing
pub mod Spelling
pub mod Laws
pub mod Lines
pub mod Whole
pub mod Worked
