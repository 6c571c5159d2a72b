pub mod Digits
pub mod Places
pub mod Tokens
pub mod Lines
pub mod Forms
pub mod Plans
