pub mod Rearranging
