pub mod Meanings
pub mod Fitting
pub mod Telling
pub mod Viewed
pub mod Steps
