pub mod Plain
pub mod Heads
pub mod Checks
pub mod Sources
