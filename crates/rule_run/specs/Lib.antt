pub mod Answers
pub mod Files
pub mod Laws
pub mod Runs
