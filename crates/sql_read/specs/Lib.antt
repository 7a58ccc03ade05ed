pub mod Checks
pub mod Chains
pub mod Walks
pub mod Answers
