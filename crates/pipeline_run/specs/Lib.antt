pub mod Chained
pub mod Priorities
pub mod Kept
pub mod ReadAs
pub mod View
