pub mod Answers
pub mod Base64
pub mod Networks
pub mod Pieces
pub mod Utf16
pub mod Written
