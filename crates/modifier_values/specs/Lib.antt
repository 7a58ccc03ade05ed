pub mod Edited
pub mod Encoded
pub mod Expressions
pub mod Numbers
pub mod Parts
pub mod PlainPatterns
pub mod Uses
