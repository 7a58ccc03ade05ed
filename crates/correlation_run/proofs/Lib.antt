pub mod Brought
pub mod Followed
pub mod Judged
pub mod Lined
pub mod Reread
