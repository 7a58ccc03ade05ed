pub mod Tree
pub mod View
pub mod Texts
pub mod Nodes
pub mod Found
