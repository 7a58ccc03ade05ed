pub mod Moments
pub mod Nearness
pub mod Wholes
