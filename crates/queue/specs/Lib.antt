pub mod Faults
pub mod Receivers
pub mod Logs
pub mod Workers
