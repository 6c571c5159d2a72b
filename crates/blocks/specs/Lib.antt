pub mod Faults
pub mod Inspection
pub mod Readings
pub mod Models
pub mod Memory
