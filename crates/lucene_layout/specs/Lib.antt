pub mod Escaped
pub mod Layout
pub mod Trees
