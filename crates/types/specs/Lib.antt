pub mod Trees
pub mod Checks
pub mod Facts
pub mod Views
