pub mod Lines
pub mod Plans
pub mod Meanings
pub mod Scans
