pub mod Memories
pub mod Printing
