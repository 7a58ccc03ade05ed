pub mod Building
pub mod ForUnbuilt
pub mod Unbuilt
