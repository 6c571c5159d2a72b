pub mod Living
pub mod Beginning
