pub mod DrainAnswers
pub mod Turns
pub mod Beginning
