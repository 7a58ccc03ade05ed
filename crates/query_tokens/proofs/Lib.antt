pub mod Stops
pub mod Bytes
pub mod PlaceLemmas
