pub mod Meaning
pub mod Judging
pub mod ByName
