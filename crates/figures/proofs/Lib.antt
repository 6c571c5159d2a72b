pub mod Known
pub mod Rehearsed
