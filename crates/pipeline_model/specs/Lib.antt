pub mod Concerned
pub mod Checks
pub mod Pipelines
pub mod Reading
pub mod Ids
