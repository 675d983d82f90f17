pub mod Facts
pub mod Slots
pub mod Held
pub mod Reasons
pub mod Laws
pub mod Steps
pub mod Makes
pub mod Rows
