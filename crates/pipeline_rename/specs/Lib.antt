pub mod Known
pub mod Names
pub mod Renamed
pub mod Made
pub mod Kept
