pub mod Shares
pub mod Wrote
pub mod Ending
pub mod Unread
pub mod Rows
pub mod Asked
pub mod Followed
pub mod Lined
pub mod Behind
mod Refusals
mod Answered
pub mod Selected
