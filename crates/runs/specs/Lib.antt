pub mod Faults
pub mod Drains
pub mod Rehearsals
