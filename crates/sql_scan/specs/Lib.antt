pub mod View
pub mod Numerals
