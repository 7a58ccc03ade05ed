pub mod Known
pub mod Steps
pub mod View
pub mod Answers
pub mod Answered
