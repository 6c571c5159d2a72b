pub mod Places
pub mod Faults
pub mod Arranged
pub mod Turning
