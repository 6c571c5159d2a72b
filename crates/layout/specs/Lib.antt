pub mod Words
pub mod Blocks
pub mod Image
pub mod Decoding
