pub mod Steps
pub mod Parses
