pub mod Arrivals
pub mod Engines
pub mod Limits
pub mod Steps
