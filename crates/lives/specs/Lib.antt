pub mod Permits
pub mod Lent
pub mod Turns
pub mod Replays
