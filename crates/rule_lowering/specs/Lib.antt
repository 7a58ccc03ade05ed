pub mod Counts
pub mod Joining
pub mod Leaves
pub mod Refused
pub mod TreeOf
pub mod WholeNumbers
