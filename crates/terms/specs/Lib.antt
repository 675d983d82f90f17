pub mod Refusals
pub mod Limits
pub mod Kinds
