mod Examples
pub mod Advancing
pub mod Committing
pub mod Counting
pub mod Dropping
pub mod Following
pub mod Held
pub mod Noting
pub mod Ordering
pub mod Popping
pub mod Pushing
pub mod Reached
pub mod Removing
pub mod Rooms
pub mod Sifting
pub mod Sinking
pub mod Tallying
pub mod Windowing
