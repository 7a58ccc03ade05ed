pub mod Plain
pub mod AsBuilt
pub mod Conditions
pub mod Expressions
pub mod Rules
pub mod Whole
pub mod Matching
