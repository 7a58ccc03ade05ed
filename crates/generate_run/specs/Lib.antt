pub mod Lines
pub mod Subjects
pub mod Compared
pub mod Draws
pub mod Events
pub mod Rules
pub mod Words
