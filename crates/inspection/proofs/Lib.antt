pub mod Counts
pub mod Single
