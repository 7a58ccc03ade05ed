pub mod Depths
pub mod Kinds
pub mod Ordered
pub mod Refused
pub mod Turns
pub mod View
