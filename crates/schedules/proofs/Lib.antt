pub mod Sums
pub mod WorkLeft
pub mod Bounds
pub mod Refusals
pub mod Draining
pub mod InTime
pub mod DrainSteps
pub mod Rehearsing
