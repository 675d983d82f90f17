pub mod Blanks
pub mod Extending
