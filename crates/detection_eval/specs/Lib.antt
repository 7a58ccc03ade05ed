pub mod Ready
pub mod Truths
