pub mod View
pub mod Outcomes
