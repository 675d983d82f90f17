pub mod Labels
pub mod Newest
