pub mod Readings
pub mod Notices
