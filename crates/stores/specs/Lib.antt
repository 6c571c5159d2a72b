pub mod Refusals
pub mod Model
pub mod Calls
pub mod Records
pub mod Checks
