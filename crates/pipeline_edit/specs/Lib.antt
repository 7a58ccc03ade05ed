pub mod Items
pub mod Failed
pub mod Dropped
pub mod Added
pub mod Counted
pub mod Steps
pub mod Kept
