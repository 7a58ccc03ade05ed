pub mod Searches
pub mod View
