pub mod Coming
pub mod Examples
pub mod Feeds
pub mod Turns
