pub mod Labels
pub mod Records
pub mod Finding
