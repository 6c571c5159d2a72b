pub mod Drains
pub mod Budgets
pub mod Rehearsals
pub mod Hands
