pub mod Answers
pub mod Built
pub mod Patterns
pub mod RefusedPlaces
pub mod Ended
